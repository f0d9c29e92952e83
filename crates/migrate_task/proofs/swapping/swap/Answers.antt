use Rattle.std.proofs.Common.{refl, rules}
use Rattle.volume_world.specs.Call.{Next}
use Rattle.migrate_task.specs.Work.{with_old_units}
use Rattle.migrate_task.specs.AdvanceCall.{TaskStage, task_call, task_after, releasing, after_swap}
use Rattle.migrate_task.specs.TaskParts.{work_of}
use Rattle.migrate_task.proofs.TaskLemmas.{goes_told, fails_on}
use Rattle.migrate_task.proofs.swapping.swap.Goals as goal

pub returns-in_err-reply-clause-goes : goal.returns-in_err-reply-clause-goes
returns-in_err-reply-clause-goes g c = λ mode.
    let work = work_of c.args.work.now in
    let stage = TaskStage.Swapping work in
    fails_on (task_call mode c.args.task.now) _ _ (Next.Go stage) c.in_err-reply.field-0.0 c.from_residual.result (task_after mode c.args.task.now stage)
    (λ _. Next.Go (releasing work (with_old_units work.journeys))) (search rules) (c.in_err-reply.ensures.steps mode c.args.task.now stage refl)

pub returns-clause-goes : goal.returns-clause-goes
returns-clause-goes g c = λ mode.
    let work = work_of c.args.work.now in
    let stage = TaskStage.Swapping work in
    goes_told (task_call mode c.args.task.now) _ _ (Next.Go stage) (after_swap work c.in_ok-reply.reply) c.swapped.result
    (λ _. Next.Go (releasing work (with_old_units work.journeys))) c.swapped.ensures (c.in_ok-reply.ensures.steps mode c.args.task.now stage refl)
