use Rattle.std.proofs.Common.{Ok, sym, ◌∙◌, ap, subst, rules}
use Rattle.volume_world.specs.Way.{Origin}
use Rattle.volume_world.specs.Call.{Next}
use Rattle.volume_world.specs.Progress.{Proceeds}
use Rattle.migrate_task.specs.declared.starting.Start.{Start}
use Rattle.migrate_task.specs.declared.stage.Stage.TheVariants as stages
use Rattle.migrate_task.specs.AdvanceCall.{TaskStage, task_call, creating, releasing}
use Rattle.migrate_task.specs.TaskParts.{IsWorkOn, starting, start_work, work_of}
use Rattle.migrate_task.specs.GatherParts.{coder_shape}
use Rattle.migrate_task.proofs.TaskLemmas.{fails_on, part_on}
use Rattle.migrate_task.proofs.advancing.run.Goals as goal

pub returns-in_err-start-clause-goes : goal.returns-in_err-start-clause-goes
returns-in_err-start-clause-goes g c =
    let a = g.P.Port.seen c.args.port.now in
    fails_on (task_call a.origin.mode c.args.task.now) _ _ (Next.Go TaskStage.Looking) c.in_err-start.field-0.0 c.from_residual.result starting (λ units. Next.Over (Ok (stages.Done units))) (search rules) c.in_err-start.ensures.goes

pub move_units-requires-clause-coder : goal.move_units-requires-clause-coder
move_units-requires-clause-coder g c = c.requires.coder ∙ ap (λ (o : Origin). coder_shape o.mode) (sym c.in_ok-start.ensures.origin)

pub move_units-requires-clause-work : goal.move_units-requires-clause-work
move_units-requires-clause-work g c =
    subst (λ (o : Origin). IsWorkOn o (work_of c.in-Locked.work)) (sym c.in_ok-start.ensures.origin) (subst (λ (s : Start). IsWorkOn (g.P.Port.seen c.args.port.now).origin (start_work s)) c.in-Locked.is c.in_ok-start.ensures.work)

pub returns-in-Locked-clause-goes : goal.returns-in-Locked-clause-goes
returns-in-Locked-clause-goes g c =
    let a = g.P.Port.seen c.args.port.now in
    let b = g.P.Port.seen c.take_lock.new.port in
    let call = task_call a.origin.mode c.args.task.now in
    let w = work_of c.in-Locked.work in
    part_on call a b _ (Next.Go TaskStage.Looking) (creating w w.journeys) c.move_units.result (λ units. Next.Over (Ok (stages.Done units)))
    (subst (λ (s : Start). Proceeds call a b (Next.Go TaskStage.Looking) (starting s)) c.in-Locked.is c.in_ok-start.ensures.goes) (c.move_units.ensures.goes a.origin.mode)

pub give_free-requires : goal.give_free-requires
give_free-requires g c =
    subst (λ (o : Origin). IsWorkOn o (work_of c.in-Swapped.work)) (sym c.in_ok-start.ensures.origin) (subst (λ (s : Start). IsWorkOn (g.P.Port.seen c.args.port.now).origin (start_work s)) c.in-Swapped.is c.in_ok-start.ensures.work)

pub returns-in-Swapped-clause-goes : goal.returns-in-Swapped-clause-goes
returns-in-Swapped-clause-goes g c =
    let a = g.P.Port.seen c.args.port.now in
    let b = g.P.Port.seen c.take_lock.new.port in
    let call = task_call a.origin.mode c.args.task.now in
    let w = work_of c.in-Swapped.work in
    part_on call a b _ (Next.Go TaskStage.Looking) (Next.Go (releasing w w.journeys)) c.give_free.result (λ units. Next.Over (Ok (stages.Done units)))
    (subst (λ (s : Start). Proceeds call a b (Next.Go TaskStage.Looking) (starting s)) c.in-Swapped.is c.in_ok-start.ensures.goes) (c.give_free.ensures.goes a.origin.mode)
