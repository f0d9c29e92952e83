use Rattle.std.proofs.Common.{refl, rules}
use Rattle.volume_world.specs.Call.{Next}
use Rattle.migrate_task.specs.AdvanceCall.{TaskStage, task_call, task_after, creating, after_create}
use Rattle.migrate_task.proofs.TaskLemmas.{goes_told, fails_on}
use Rattle.migrate_task.proofs.preparing.create.Goals as goal

pub returns-in_err-reply-clause-goes : goal.returns-in_err-reply-clause-goes
returns-in_err-reply-clause-goes g c = λ mode task work left.
    let stage = TaskStage.Creating work c.args.journey.now left in
    fails_on (task_call mode task) _ _ (Next.Go stage) c.in_err-reply.field-0.0 c.from_residual.result (task_after mode task stage) (λ _. creating work left) (search rules)
    (c.in_err-reply.ensures.steps mode task stage refl)

pub returns-clause-goes : goal.returns-clause-goes
returns-clause-goes g c = λ mode task work left.
    let stage = TaskStage.Creating work c.args.journey.now left in
    goes_told (task_call mode task) _ _ (Next.Go stage) (after_create work c.args.journey.now.dest.disk left c.in_ok-reply.reply) c.created.result (λ _. creating work left)
    (c.created.ensures work left) (c.in_ok-reply.ensures.steps mode task stage refl)
