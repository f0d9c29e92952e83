use Rattle.std.proofs.Common.{◌≤◌, drop}
use Rattle.rs_code.specs.Differences.{IsAscendingFrom}
use Rattle.rs_code.proofs.known_places.are_ascending.Given as goal

abbrev pub invariant-loop-z : goal.invariant-loop-z
invariant-loop-z l = record {
  up : IsAscendingFrom l.least (drop l.z-index l.places) → IsAscendingFrom 0 l.places;
  small : l.least ≤ 256;
}
