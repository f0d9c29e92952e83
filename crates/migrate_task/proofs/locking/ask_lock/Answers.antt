use Rattle.std.proofs.Common.{ap, refl, rules}
use Rattle.volume_world.specs.declared.event.Event.TheVariants as events
use Rattle.volume_world.specs.Call.{Next}
use Rattle.migrate_task.specs.AdvanceCall.{TaskStage, task_call, task_after, after_lock}
use Rattle.migrate_task.specs.TaskParts.{granted}
use Rattle.migrate_task.proofs.TaskLemmas.{goes_told, fails_on, breaks_off, proceeds_nowhere}
use Rattle.migrate_task.proofs.WorkLemmas.{lock_may}
use Rattle.migrate_task.proofs.locking.ask_lock.Goals as goal

pub step-requires : goal.step-requires
step-requires g c = lock_may _ c.args.task.now c.in_ok-targets.targets c.requires.task c.requires.disks c.in_ok-targets.ensures

pub returns-in_err-targets-clause-goes : goal.returns-in_err-targets-clause-goes
returns-in_err-targets-clause-goes g c = λ mode homes.
    let call = task_call mode c.args.task.now in
    let at = Next.Go (TaskStage.Locking homes) in
    breaks_off call _ _ at at c.from_residual.result (λ grant. granted mode c.args.task.now homes grant.lock grant.moves) (search rules) refl (proceeds_nowhere call _ at)

pub returns-in_err-reply-clause-goes : goal.returns-in_err-reply-clause-goes
returns-in_err-reply-clause-goes g c = λ mode homes.
    fails_on (task_call mode c.args.task.now) _ _ (Next.Go (TaskStage.Locking homes)) c.in_err-reply.field-0.0 c.from_residual-in_err-reply.result (task_after mode c.args.task.now (TaskStage.Locking homes))
    (λ grant. granted mode c.args.task.now homes grant.lock grant.moves) (search rules)
    (c.in_err-reply.ensures.steps mode c.args.task.now (TaskStage.Locking homes) (ap (events.Lock c.args.task.now.id) c.in_ok-targets.ensures))

pub returns-clause-goes : goal.returns-clause-goes
returns-clause-goes g c = λ mode homes.
    goes_told (task_call mode c.args.task.now) _ _ (Next.Go (TaskStage.Locking homes)) (after_lock mode c.args.task.now homes c.in_ok-reply.reply) c.locked.result
    (λ grant. granted mode c.args.task.now homes grant.lock grant.moves) (c.locked.ensures.makes mode c.args.task.now homes)
    (c.in_ok-reply.ensures.steps mode c.args.task.now (TaskStage.Locking homes) (ap (events.Lock c.args.task.now.id) c.in_ok-targets.ensures))

pub returns-clause-shown : goal.returns-clause-shown
returns-clause-shown g c = c.locked.ensures.shown (g.P.Port.seen c.args.port.now).origin c.in_ok-reply.ensures.moves
