use Rattle.std.proofs.Common.{◌≡◌, map, take}
use Rattle.rs_code.specs.Differences.{differences}
use Rattle.rs_code.proofs.known_places.products_of.Given as goal

abbrev pub invariant-loop-x : goal.invariant-loop-x
invariant-loop-x l = l.products.items ≡ map (λ x. differences l.places x x) (take l.x-index l.places)
