use Rattle.std.proofs.Common.{cond, refl, rules}
use Rattle.volume_world.specs.Call.{Next}
use Rattle.migrate_task.specs.Work.{with_broken}
use Rattle.migrate_task.specs.AdvanceCall.{TaskStage, task_call, task_after, releasing, after_release}
use Rattle.migrate_task.proofs.TaskLemmas.{goes_told, fails_on}
use Rattle.migrate_task.proofs.swapping.ask_release.Goals as goal

pub returns-in_err-reply-clause-goes : goal.returns-in_err-reply-clause-goes
returns-in_err-reply-clause-goes g c = λ mode task work left.
    let stage = TaskStage.Releasing work c.args.journey.now left in
    fails_on (task_call mode task) _ _ (Next.Go stage) c.in_err-reply.field-0.0 c.from_residual.result (task_after mode task stage)
    (λ broken. Next.Go (releasing (cond broken (with_broken c.args.journey.now.old.disk work) work) left)) (search rules) (c.in_err-reply.ensures.steps mode task stage refl)

pub returns-clause-goes : goal.returns-clause-goes
returns-clause-goes g c = λ mode task work left.
    let stage = TaskStage.Releasing work c.args.journey.now left in
    goes_told (task_call mode task) _ _ (Next.Go stage) (after_release work c.args.journey.now.old.disk left c.in_ok-reply.reply) c.released.result
    (λ broken. Next.Go (releasing (cond broken (with_broken c.args.journey.now.old.disk work) work) left))
    (c.released.ensures work left) (c.in_ok-reply.ensures.steps mode task stage refl)
