use Rattle.std.proofs.Common.{◌≡◌, ◌<◌, drop}
use Rattle.gf256.specs.Field.{product}
use Rattle.rs_code.specs.Differences.{differences}
use Rattle.rs_code.proofs.known_places.product_of_differences.Given as goal

-- the factors so far, and those of the places that are left
abbrev pub invariant-loop-z : goal.invariant-loop-z
invariant-loop-z l = record {
  whole : product l.product (differences (drop l.z-index l.places) l.x l.r) ≡ differences l.places l.x l.r;
  byte : l.product < 256;
}
