use Rattle.std.proofs.Common.{◌≡◌}
use Rattle.unit_id.specs.Lists.{count_below}
use Rattle.volume_entry.specs.HeardCounts.{live_at}
use Rattle.volume_entry.proofs.settling.live_count.Given as goal

abbrev pub invariant-loop-index : goal.invariant-loop-index
invariant-loop-index l = l.count ≡ count_below l.index (live_at l.listings l.homes l.broken l.bid)
