use Rattle.std.proofs.Common.{sym, subst, rules}
use Rattle.volume_world.specs.Way.{Origin}
use Rattle.volume_world.specs.Call.{Next}
use Rattle.migrate_task.specs.AdvanceCall.{TaskStage, task_call}
use Rattle.migrate_task.specs.TaskParts.{GoesOn, IsTaskOf, IsSightOf, sighted, starting}
use Rattle.migrate_task.specs.declared.starting.Start.{Start}
use Rattle.migrate_task.proofs.TaskLemmas.{fails_on, part_on}
use Rattle.migrate_task.proofs.starting.take_lock.Goals as goal

pub follow-requires-clause-task : goal.follow-requires-clause-task
follow-requires-clause-task g c = subst (λ (o : Origin). IsTaskOf o c.args.task.now) (sym c.in_ok-sight.ensures.origin) c.requires

pub follow-requires-clause-shown : goal.follow-requires-clause-shown
follow-requires-clause-shown g c = subst (λ (o : Origin). IsSightOf o c.args.task.now.targets c.in_ok-sight.sight) (sym c.in_ok-sight.ensures.origin) c.in_ok-sight.ensures.shown

pub returns-in_err-sight-clause-goes : goal.returns-in_err-sight-clause-goes
returns-in_err-sight-clause-goes g c =
    let mode = (g.P.Port.seen c.args.port.now).origin.mode in
    fails_on (task_call mode c.args.task.now) _ _ (Next.Go TaskStage.Looking) c.in_err-sight.field-0.0 c.from_residual.result (sighted mode c.args.task.now) starting (search rules) (c.in_err-sight.ensures.goes mode)

pub returns-clause-goes : goal.returns-clause-goes
returns-clause-goes g c =
    let a = g.P.Port.seen c.args.port.now in
    let b = g.P.Port.seen c.look.new.port in
    let d = g.P.Port.seen c.follow.new.port in
    let task = c.args.task.now in
    let rest = subst (λ (o : Origin). GoesOn {T = Start} (task_call o.mode task) b d (sighted o.mode task c.in_ok-sight.sight) c.follow.result starting) c.in_ok-sight.ensures.origin c.follow.ensures.goes in
    part_on (task_call a.origin.mode task) a b d (Next.Go TaskStage.Looking) (sighted a.origin.mode task c.in_ok-sight.sight) c.follow.result starting (c.in_ok-sight.ensures.goes a.origin.mode) rest
