use Rattle.std.proofs.Common.{sym, ap, rules}
use Rattle.volume_world.specs.declared.event.Event.TheVariants as events
use Rattle.volume_world.specs.Call.{Next}
use Rattle.migrate_task.specs.AdvanceCall.{TaskStage, task_call, task_after, after_copy}
use Rattle.migrate_task.proofs.TaskLemmas.{fails_on}
use Rattle.migrate_task.proofs.ToldLemmas.{read_right}
use Rattle.migrate_task.proofs.copying.read.Goals as goal

pub returns-in_err-reply-clause-goes : goal.returns-in_err-reply-clause-goes
returns-in_err-reply-clause-goes g c = λ mode task work copy asked.
    let stage = TaskStage.Copying work copy in
    fails_on (task_call mode task) _ _ (Next.Go stage) c.in_err-reply.field-0.0 c.from_residual.result (task_after mode task stage) (after_copy work copy) (search rules)
    (c.in_err-reply.ensures.steps mode task stage (ap events.Send (sym asked)))

pub returns-clause-goes : goal.returns-clause-goes
returns-clause-goes g c = λ mode task work copy asked. c.in_ok-reply.ensures.steps mode task (TaskStage.Copying work copy) (ap events.Send (sym asked))

pub returns-clause-replies : goal.returns-clause-replies
returns-clause-replies g c = c.in_ok-reply.ensures.fits

pub returns-clause-right : goal.returns-clause-right
returns-clause-right g c =
    read_right (g.P.Port.seen c.args.port.now) (g.P.Port.seen c.step.new.port) c.args.home.now.unit c.args.home.now.disk c.args.bid c.in_ok-reply.reply c.is_way.ensures c.is_way-2.ensures
    c.in_ok-reply.ensures.happens
