use Rattle.std.proofs.Common.{◌≡◌, false}
use Rattle.unit_id.specs.Lists.{some_below}
use Rattle.volume_entry.specs.HeardCounts.{marked_at}
use Rattle.volume_entry.proofs.settling.is_marked_by.Given as goal

abbrev pub invariant-loop-index : goal.invariant-loop-index
invariant-loop-index l = some_below l.index (marked_at l.listings l.homes l.broken l.bid) ≡ false
