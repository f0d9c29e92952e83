use Rattle.std.proofs.Common.{◌≡◌, length, reverse}
use Rattle.std.specs.List.{list_any}
use Rattle.disk_base.specs.History.{written_in}
use Rattle.disk_base.specs.Images.{covers}
use Rattle.disk_base.proofs.mem_file.is_loose.Given as goal

-- what was looked at so far doesn't cover the place
abbrev pub invariant-loop-last : goal.invariant-loop-last
invariant-loop-last l = list_any (covers l.place) (written_in (reverse l.changes)) ≡ list_any (covers l.place) (written_in (reverse l.rest))

abbrev pub decreases-loop-last : goal.decreases-loop-last
decreases-loop-last l = length l.rest
