use Rattle.std.proofs.Common.{refl}
use Rattle.migrate_task.specs.Work.{errands_of}
use Rattle.migrate_task.proofs.MergeLemmas.{joined_next, joined_all, errands_split}
use Rattle.migrate_task.proofs.merging.add_each.Goals as goal

pub journeys-preserved : goal.journeys-preserved
journeys-preserved c = λ listings h.
    joined_next (errands_of c.args.bid c.args.due listings) (errands_split c.args.bid c.args.due listings) c.args.journeys.now c.journeys.journey-index c.journey-item.result c.journeys.errands.items _ _
    c.journeys-test.true c.journey-item.is (c.journeys.invariant listings h) (c.in_ok-add_one.ensures listings h)

pub returns : goal.returns
returns c = λ listings h.
    joined_all (errands_of c.args.bid c.args.due listings) refl c.args.journeys.now c.journeys.journey-index c.journeys.errands.items _ c.journeys-test.false (c.journeys.invariant listings h)
