use Rattle.std.proofs.Common.{Ok, refl, rules}
use Rattle.volume_world.specs.Call.{Next}
use Rattle.migrate_task.specs.declared.stage.Stage.TheVariants as stages
use Rattle.migrate_task.specs.AdvanceCall.{TaskStage, task_call, task_after, after_unlock}
use Rattle.migrate_task.specs.TaskParts.{work_of}
use Rattle.migrate_task.proofs.TaskLemmas.{goes_told, fails_on}
use Rattle.migrate_task.proofs.swapping.unlock.Goals as goal

pub returns-in_err-reply-clause-goes : goal.returns-in_err-reply-clause-goes
returns-in_err-reply-clause-goes g c = λ mode.
    let work = work_of c.args.work.now in
    let stage = TaskStage.Unlocking work in
    fails_on (task_call mode c.args.task.now) _ _ (Next.Go stage) c.in_err-reply.field-0.0 c.from_residual.result (task_after mode c.args.task.now stage)
    (λ units. Next.Over (Ok (stages.Done units))) (search rules) (c.in_err-reply.ensures.steps mode c.args.task.now stage refl)

pub returns-clause-goes : goal.returns-clause-goes
returns-clause-goes g c = λ mode.
    let work = work_of c.args.work.now in
    let stage = TaskStage.Unlocking work in
    goes_told (task_call mode c.args.task.now) _ _ (Next.Go stage) (after_unlock work c.in_ok-reply.reply) c.unlocked.result
    (λ units. Next.Over (Ok (stages.Done units))) c.unlocked.ensures (c.in_ok-reply.ensures.steps mode c.args.task.now stage refl)
