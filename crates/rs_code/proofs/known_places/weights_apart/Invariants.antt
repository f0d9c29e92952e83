use Rattle.std.proofs.Common.{◌≡◌, map, take}
use Rattle.rs_code.specs.ShardValue.{weight}
use Rattle.rs_code.proofs.known_places.weights_apart.Given as goal

abbrev pub invariant-loop-k : goal.invariant-loop-k
invariant-loop-k l = l.row.items ≡ map (λ x. weight l.places x l.r) (take l.k l.places)
