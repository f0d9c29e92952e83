use Rattle.std.proofs.Common.{◌≡◌, map, take}
use Rattle.rs_code.specs.ShardValue.{weight}
use Rattle.rs_code.proofs.weighing.weights_of.Given as goal

abbrev pub invariant-loop-x : goal.invariant-loop-x
invariant-loop-x l = l.row.items ≡ map (λ x. weight l.places x l.r) (take l.x-index l.places)
