use Rattle.std.proofs.Common.{◌≡◌}
use Rattle.std.specs.Prelude.{is_some}
use Rattle.unit_id.specs.Lists.{count_below}
use Rattle.volume_entry.specs.HeardCounts.{usable}
use Rattle.volume_entry.proofs.counting.usable_count.Given as goal

abbrev pub invariant-loop-index : goal.invariant-loop-index
invariant-loop-index l = l.count ≡ count_below l.index (λ i. is_some (usable l.listings l.homes l.broken i))
