use Rattle.std.proofs.Common.{refl, rules}
use Rattle.volume_world.specs.Call.{Next}
use Rattle.migrate_task.specs.AdvanceCall.{TaskStage, task_call, task_after, after_look}
use Rattle.migrate_task.specs.TaskParts.{sighted}
use Rattle.migrate_task.proofs.TaskLemmas.{goes_told, fails_on}
use Rattle.migrate_task.proofs.locking.look.Goals as goal

pub seen-requires : goal.seen-requires
seen-requires g c = ((g.P.Port.seen c.args.port.now).origin, c.in_ok-reply.ensures.fits)

pub returns-in_err-reply-clause-goes : goal.returns-in_err-reply-clause-goes
returns-in_err-reply-clause-goes g c = λ mode.
    fails_on (task_call mode c.args.task.now) _ _ (Next.Go TaskStage.Looking) c.in_err-reply.field-0.0 c.from_residual.result (task_after mode c.args.task.now TaskStage.Looking) (sighted mode c.args.task.now)
    (search rules) (c.in_err-reply.ensures.steps mode c.args.task.now TaskStage.Looking refl)

pub returns-clause-goes : goal.returns-clause-goes
returns-clause-goes g c = λ mode.
    goes_told (task_call mode c.args.task.now) _ _ (Next.Go TaskStage.Looking) (after_look mode c.args.task.now c.in_ok-reply.reply) c.seen.result (sighted mode c.args.task.now)
    (c.seen.ensures.makes mode) (c.in_ok-reply.ensures.steps mode c.args.task.now TaskStage.Looking refl)

pub returns-clause-shown : goal.returns-clause-shown
returns-clause-shown g c = c.seen.ensures.shown (g.P.Port.seen c.args.port.now).origin c.in_ok-reply.ensures.fits c.in_ok-reply.ensures.moves
