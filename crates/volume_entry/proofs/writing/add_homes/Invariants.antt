use Rattle.std.proofs.Common.{◌≡◌, ◌++◌, take}
use Rattle.std.specs.List.{flat_map}
use Rattle.volume_entry.specs.Spelling.{home_bytes, DoHomesFit}
use Rattle.volume_entry.proofs.writing.add_homes.Given as goal

abbrev pub invariant-loop-home : goal.invariant-loop-home
invariant-loop-home l = record {
  added : l.out.items ≡ l.fn.out.items ++ flat_map home_bytes (take l.home-index l.homes);
  fits : DoHomesFit (take l.home-index l.homes);
}
