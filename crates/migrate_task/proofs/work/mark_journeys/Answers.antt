use Rattle.std.proofs.Common.{arith}
use Rattle.migrate_task.specs.Work.{old_broken_at}
use Rattle.migrate_task.proofs.WorkLemmas.{changed_more, changed_all}
use Rattle.migrate_task.proofs.work.mark_journeys.Goals as goal

pub loop-journey-preserved : goal.loop-journey-preserved
loop-journey-preserved c =
    changed_more (old_broken_at c.args.disk) c.args.journeys.now c.loop-journey.journeys c.loop-journey.journey-index c.journey-item.result c.old_broken_at.result (omega arith) c.loop-journey.invariant c.old_broken_at.ensures

pub returns : goal.returns
returns c = changed_all (old_broken_at c.args.disk) c.args.journeys.now c.loop-journey.journeys c.loop-journey.journey-index (omega arith) c.loop-journey.invariant
