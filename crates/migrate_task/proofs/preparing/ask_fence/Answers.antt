use Rattle.std.proofs.Common.{cond, sym, ap, rules}
use Rattle.volume_world.specs.declared.event.Event.TheVariants as events
use Rattle.unit_id.specs.declared.request.Request.TheVariants as requests
use Rattle.volume_world.specs.Call.{Next}
use Rattle.migrate_task.specs.Work.{with_broken}
use Rattle.migrate_task.specs.AdvanceCall.{TaskStage, task_call, task_after, fencing, after_fence}
use Rattle.migrate_task.proofs.TaskLemmas.{goes_told, fails_on}
use Rattle.migrate_task.proofs.preparing.ask_fence.Goals as goal

pub returns-in_err-reply-clause-goes : goal.returns-in_err-reply-clause-goes
returns-in_err-reply-clause-goes g c = λ mode task work left same.
    let stage = TaskStage.Fencing work c.args.journey.now left in
    fails_on (task_call mode task) _ _ (Next.Go stage) c.in_err-reply.field-0.0 c.from_residual.result (task_after mode task stage)
    (λ broken. fencing (cond broken (with_broken c.args.journey.now.old.disk work) work) left) (search rules)
    (c.in_err-reply.ensures.steps mode task stage (ap (λ n. events.Send (requests.Fence c.args.journey.now.old.unit c.args.journey.now.old.disk n)) (sym same)))

pub returns-clause-goes : goal.returns-clause-goes
returns-clause-goes g c = λ mode task work left same.
    let stage = TaskStage.Fencing work c.args.journey.now left in
    goes_told (task_call mode task) _ _ (Next.Go stage) (after_fence work c.args.journey.now.old.disk left c.in_ok-reply.reply) c.fenced.result
    (λ broken. fencing (cond broken (with_broken c.args.journey.now.old.disk work) work) left)
    (c.fenced.ensures work left)
    (c.in_ok-reply.ensures.steps mode task stage (ap (λ n. events.Send (requests.Fence c.args.journey.now.old.unit c.args.journey.now.old.disk n)) (sym same)))
