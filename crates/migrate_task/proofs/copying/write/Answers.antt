use Rattle.std.proofs.Common.{refl, rules}
use Rattle.volume_world.specs.Call.{Next}
use Rattle.migrate_task.specs.Copies.{CopyStage, next_errand}
use Rattle.migrate_task.specs.AdvanceCall.{TaskStage, task_call, task_after, copying, after_copy}
use Rattle.migrate_task.proofs.TaskLemmas.{goes_told, fails_on}
use Rattle.migrate_task.proofs.copying.write.Goals as goal

pub step-requires : goal.step-requires
step-requires g c = c.requires

pub returns-in_err-reply-clause-goes : goal.returns-in_err-reply-clause-goes
returns-in_err-reply-clause-goes g c = λ mode task work known left.
    let stage = TaskStage.Copying work (CopyStage.Writing known c.args.errand.now left c.args.blob_size c.args.bytes) in
    fails_on {U = Unit {0}} (task_call mode task) _ _ (Next.Go stage) c.in_err-reply.field-0.0 c.from_residual.result (task_after mode task stage) (λ _. copying work (next_errand work known left)) (search rules)
    (c.in_err-reply.ensures.steps mode task stage refl)

pub returns-clause-goes : goal.returns-clause-goes
returns-clause-goes g c = λ mode task work known left.
    let copy = CopyStage.Writing known c.args.errand.now left c.args.blob_size c.args.bytes in
    let stage = TaskStage.Copying work copy in
    goes_told {T = Unit {0}} (task_call mode task) _ _ (Next.Go stage) (after_copy work copy c.in_ok-reply.reply) c.written.result (λ _. copying work (next_errand work known left))
    (c.written.ensures work known left c.args.blob_size c.args.bytes) (c.in_ok-reply.ensures.steps mode task stage refl)
