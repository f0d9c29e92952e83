use Rattle.std.proofs.Common.{get_or, filter, refl}
use Rattle.migrate_task.specs.Merging.{is_number}
use Rattle.migrate_task.proofs.WorkLemmas.{any_default}
use Rattle.migrate_task.proofs.MergeLemmas.{joined_next, joined_all, filter_split}
use Rattle.migrate_task.proofs.merging.add_numbers.Goals as goal

pub more-preserved : goal.more-preserved
more-preserved c =
    joined_next (filter is_number) (filter_split is_number) c.args.more.now c.more.bid-index (get_or c.args.more.now c.more.bid-index 0) c.more.bids.items _ _ c.more-test.true (any_default c.args.more.now c.more.bid-index 0 _ c.more-test.true) c.more.invariant c.in_ok-add_number.ensures

pub returns : goal.returns
returns c = joined_all (filter is_number) refl c.args.more.now c.more.bid-index c.more.bids.items _ c.more-test.false c.more.invariant
