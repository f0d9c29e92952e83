use Rattle.std.proofs.Common.{◌≡◌, ◌+◌, ◌*◌, ◌++◌, length}
use Rattle.std.specs.List.{flat_map}
use Rattle.volume_entry.specs.Spelling.{grant_bytes, DoGrantsFit}
use Rattle.volume_entry.proofs.reading.read_grants.Given as goal

abbrev pub invariant-loop-left : goal.invariant-loop-left
invariant-loop-left l = record {
  read : l.bytes ≡ flat_map grant_bytes l.grants.items ++ l.left;
  count : length l.bytes ≡ 9 * length l.grants.items + length l.left;
  fits : DoGrantsFit l.grants.items;
}

abbrev pub decreases-loop-left : goal.decreases-loop-left
decreases-loop-left l = length l.left
