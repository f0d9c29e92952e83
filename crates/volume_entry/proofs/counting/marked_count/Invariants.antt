use Rattle.std.proofs.Common.{◌≡◌}
use Rattle.unit_id.specs.Lists.{count_below}
use Rattle.volume_entry.specs.HeardCounts.{marks_current}
use Rattle.volume_entry.proofs.counting.marked_count.Given as goal

abbrev pub invariant-loop-index : goal.invariant-loop-index
invariant-loop-index l = l.count ≡ count_below l.index (marks_current l.marks.marks l.homes l.bid)
