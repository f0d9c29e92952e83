use Rattle.std.proofs.Common.{ℕ, ◌∷◌, Err, ap, subst, rules}
use Rattle.volume_world.specs.declared.event.Event.TheVariants as events
use Rattle.volume_world.specs.Call.{Next}
use Rattle.volume_world.specs.Progress.{Proceeds}
use Rattle.migrate_task.specs.AdvanceCall.{TaskStage, task_call, task_after, retargeting, after_retarget}
use Rattle.migrate_task.specs.TaskParts.{granted_again}
use Rattle.migrate_task.proofs.TaskLemmas.{goes_told, fails_on, part_on, proceeds_nowhere}
use Rattle.migrate_task.proofs.WorkLemmas.{retarget_may}
use Rattle.migrate_task.proofs.retargeting.ask_retarget.Goals as goal

pub step-requires : goal.step-requires
step-requires g c = retarget_may _ c.args.task.now c.args.item.now.index c.in_ok-disk.disk c.requires.task c.requires.index c.in_ok-disk.ensures.is.0 c.in_ok-disk.ensures.is.1

pub returns-in_err-disk-clause-goes : goal.returns-in_err-disk-clause-goes
returns-in_err-disk-clause-goes g c = λ mode work left.
    let call = task_call mode c.args.task.now in
    let from = retargeting c.args.task.now.targets work (c.args.item.now ∷ left) in
    fails_on {T = ℕ} call _ _ from c.in_err-disk.field-0.0 c.from_residual.result (λ _. Next.Go (TaskStage.Retargeting work c.args.item.now left)) (granted_again c.args.task.now work left) (search rules)
    (goes_told {T = ℕ} call _ _ from from (Err c.in_err-disk.field-0.0) (λ _. Next.Go (TaskStage.Retargeting work c.args.item.now left)) (c.in_err-disk.ensures.makes work left) (proceeds_nowhere call _ from))

pub returns-in_err-reply-clause-goes : goal.returns-in_err-reply-clause-goes
returns-in_err-reply-clause-goes g c = λ mode work left.
    let call = task_call mode c.args.task.now in
    let stage = TaskStage.Retargeting work c.args.item.now left in
    let from = retargeting c.args.task.now.targets work (c.args.item.now ∷ left) in
    let there : Proceeds call (g.P.Port.seen c.args.port.now) (g.P.Port.seen c.args.port.now) from (Next.Go stage) = subst (λ next. Proceeds call (g.P.Port.seen c.args.port.now) (g.P.Port.seen c.args.port.now) next (Next.Go stage)) (c.in_ok-disk.ensures.makes work left) (proceeds_nowhere call _ (Next.Go stage)) in
    fails_on call _ _ from c.in_err-reply.field-0.0 c.from_residual-in_err-reply.result (task_after mode c.args.task.now stage) (granted_again c.args.task.now work left) (search rules)
    (part_on call _ _ _ from (Next.Go stage) (Err c.in_err-reply.field-0.0) (task_after mode c.args.task.now stage) there
    (c.in_err-reply.ensures.steps mode c.args.task.now stage (ap (events.Retarget c.args.task.now.id c.args.item.now.index) c.in_ok-disk.ensures.is.0)))

pub returns-clause-goes : goal.returns-clause-goes
returns-clause-goes g c = λ mode work left.
    let call = task_call mode c.args.task.now in
    let stage = TaskStage.Retargeting work c.args.item.now left in
    let from = retargeting c.args.task.now.targets work (c.args.item.now ∷ left) in
    let there : Proceeds call (g.P.Port.seen c.args.port.now) (g.P.Port.seen c.args.port.now) from (Next.Go stage) = subst (λ next. Proceeds call (g.P.Port.seen c.args.port.now) (g.P.Port.seen c.args.port.now) next (Next.Go stage)) (c.in_ok-disk.ensures.makes work left) (proceeds_nowhere call _ (Next.Go stage)) in
    part_on call _ _ _ from (Next.Go stage) c.retargeted.result (granted_again c.args.task.now work left) there
    (goes_told call _ _ (Next.Go stage) (after_retarget c.args.task.now work left c.in_ok-reply.reply) c.retargeted.result (granted_again c.args.task.now work left) (c.retargeted.ensures.makes work left)
    (c.in_ok-reply.ensures.steps mode c.args.task.now stage (ap (events.Retarget c.args.task.now.id c.args.item.now.index) c.in_ok-disk.ensures.is.0)))

pub returns-clause-shown : goal.returns-clause-shown
returns-clause-shown g c = c.retargeted.ensures.shown (g.P.Port.seen c.args.port.now).origin c.in_ok-reply.ensures.moves
