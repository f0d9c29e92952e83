use Rattle.std.proofs.Common.{arith}
use Rattle.migrate_task.specs.Work.{broken_at}
use Rattle.migrate_task.proofs.WorkLemmas.{changed_more, changed_all}
use Rattle.migrate_task.proofs.work.mark_homes.Goals as goal

pub loop-home-preserved : goal.loop-home-preserved
loop-home-preserved c =
    changed_more (broken_at c.args.disk) c.args.homes.now c.loop-home.homes c.loop-home.home-index c.home-item.result c.broken_at.result (omega arith) c.loop-home.invariant c.broken_at.ensures

pub returns : goal.returns
returns c = changed_all (broken_at c.args.disk) c.args.homes.now c.loop-home.homes c.loop-home.home-index (omega arith) c.loop-home.invariant
