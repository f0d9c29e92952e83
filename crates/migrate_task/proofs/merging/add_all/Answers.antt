use Rattle.std.proofs.Common.{get_or, refl}
use Rattle.migrate_task.specs.Work.{errands_over}
use Rattle.migrate_task.specs.TaskParts.{work_of}
use Rattle.migrate_task.proofs.WorkLemmas.{any_default}
use Rattle.migrate_task.proofs.MergeLemmas.{joined_next, joined_all, over_split, over_one}
use Rattle.migrate_task.proofs.merging.add_all.Goals as goal

pub bids-preserved : goal.bids-preserved
bids-preserved c = λ ds us hd hu.
    let w = work_of c.args.work.now in
    joined_next (errands_over w ds us) (over_split w ds us) c.args.bids.now c.bids.bid-index (get_or c.args.bids.now c.bids.bid-index 0) c.bids.errands.items _ _ c.bids-test.true (any_default c.args.bids.now c.bids.bid-index 0 _ c.bids-test.true) (c.bids.invariant ds us hd hu)
    (over_one w ds us (get_or c.args.bids.now c.bids.bid-index 0) c.due_of-due.result c.as_slice.result.now c.bids.errands.items _ (c.due_of-due.ensures us hu) c.as_slice.ensures.value (c.in_ok-add_each.ensures ds hd))

pub returns : goal.returns
returns c = λ ds us hd hu.
    joined_all (errands_over (work_of c.args.work.now) ds us) refl c.args.bids.now c.bids.bid-index c.bids.errands.items _ c.bids-test.false (c.bids.invariant ds us hd hu)
