use Rattle.std.proofs.Common.{◌≡◌, ◌+◌, ◌*◌, ◌++◌, length}
use Rattle.std.specs.List.{flat_map}
use Rattle.volume_entry.specs.Spelling.{home_bytes, DoHomesFit}
use Rattle.volume_entry.proofs.reading.read_homes.Given as goal

abbrev pub invariant-loop-left : goal.invariant-loop-left
invariant-loop-left l = record {
  read : l.bytes ≡ flat_map home_bytes l.homes.items ++ l.left;
  count : length l.bytes ≡ 8 * length l.homes.items + length l.left;
  fits : DoHomesFit l.homes.items;
}

abbrev pub decreases-loop-left : goal.decreases-loop-left
decreases-loop-left l = length l.left
