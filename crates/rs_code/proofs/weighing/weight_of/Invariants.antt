use Rattle.std.proofs.Common.{◌≡◌, ◌<◌, drop}
use Rattle.gf256.specs.Field.{product}
use Rattle.rs_code.specs.ShardValue.{weight}
use Rattle.rs_code.proofs.weighing.weight_of.Given as goal

-- the factors so far, and those of the places that are left
abbrev pub invariant-loop-z : goal.invariant-loop-z
invariant-loop-z l = record {
  whole : product l.product (weight (drop l.z-index l.places) l.x l.r) ≡ weight l.places l.x l.r;
  byte : l.product < 256;
}
