use Rattle.std.proofs.lemmas.List.Filters.{dedup_is}
use Rattle.migrate_task.proofs.MergeLemmas.{are_shown}
use Rattle.migrate_task.proofs.merging.shown.Goals as goal

pub returns : goal.returns
returns c = are_shown c.args.listings.now c.in_ok-bids.bids.items _ _ c.in_ok-bids.ensures c.sort_unstable.ensures.permutation c.sort_unstable.ensures.sorted (dedup_is _ _ _ c.dedup.ensures.filtered)
