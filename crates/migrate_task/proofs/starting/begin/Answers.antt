use Rattle.std.proofs.Common.{rules}
use Rattle.volume_world.specs.Call.{Next}
use Rattle.migrate_task.specs.AdvanceCall.{TaskStage, task_call, creating}
use Rattle.migrate_task.specs.TaskParts.{work_of, starting}
use Rattle.migrate_task.proofs.TaskLemmas.{fails_on}
use Rattle.migrate_task.proofs.starting.begin.Goals as goal

pub returns-in_err-work-clause-goes : goal.returns-in_err-work-clause-goes
returns-in_err-work-clause-goes g c =
    let mode = (g.P.Port.seen c.args.port.now).origin.mode in
    fails_on (task_call mode c.args.task.now) _ _ (Next.Go (TaskStage.Locking c.args.homes.now)) c.in_err-work.field-0.0 c.from_residual.result (λ work. creating (work_of work) work.journeys.items) starting (search rules)
    c.in_err-work.ensures.goes

pub returns-clause-goes : goal.returns-clause-goes
returns-clause-goes g c = c.in_ok-work.ensures.goes

pub returns-clause-work : goal.returns-clause-work
returns-clause-work g c = c.in_ok-work.ensures.work
