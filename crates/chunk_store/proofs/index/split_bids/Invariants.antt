use Rattle.std.proofs.Common.{◌≡◌, ◌++◌}
use Rattle.chunk_store.specs.Kept.{is_live, is_deleted, bids_where}
use Rattle.chunk_store.proofs.index.split_bids.Given as goal

abbrev pub invariant-loop-bid : goal.invariant-loop-bid
invariant-loop-bid l =
    (l.live.items ++ bids_where is_live l.bid-iterator ≡ bids_where is_live l.rows.entries)
    × (l.deleted.items ++ bids_where is_deleted l.bid-iterator ≡ bids_where is_deleted l.rows.entries)
