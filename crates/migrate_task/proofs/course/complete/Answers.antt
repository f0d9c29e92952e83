use Rattle.std.proofs.Common.{◌≡◌, Ok, List, sym, ◌∙◌, ap, subst, refl, rules}
use Rattle.volume_world.specs.Way.{Origin}
use Rattle.volume_world.specs.Call.{Next}
use Rattle.migrate_task.specs.declared.work.Journey.{Journey}
use Rattle.migrate_task.specs.declared.stage.Stage.TheVariants as stages
use Rattle.migrate_task.specs.Work.{with_old_units}
use Rattle.migrate_task.specs.AdvanceCall.{TaskStage, task_call, releasing}
use Rattle.migrate_task.specs.TaskParts.{AreJourneys, IsWorkOn, GoesOn, work_of}
use Rattle.migrate_task.proofs.TaskLemmas.{fails_on, breaks_off, part_on}
use Rattle.migrate_task.proofs.WorkLemmas.{old_units_are}
use Rattle.migrate_task.proofs.course.complete.Goals as goal

pub finish-requires-clause-units : goal.finish-requires-clause-units
finish-requires-clause-units g c =
    let is : c.as_slice-2.result.now ≡ with_old_units c.args.work.now.journeys.items = c.as_slice-2.ensures.value ∙ c.in_ok-units.ensures ∙ ap with_old_units c.as_slice.ensures.value in
    subst (λ (o : Origin). AreJourneys o c.as_slice-2.result.now) (sym c.in_ok-swap.ensures.origin)
    (subst (AreJourneys (g.P.Port.seen c.args.port.now).origin) (sym is) (old_units_are _ c.args.work.now.journeys.items c.requires.journeys))

pub finish-requires-clause-work : goal.finish-requires-clause-work
finish-requires-clause-work g c = subst (λ (o : Origin). IsWorkOn o (work_of c.args.work.now)) (sym c.in_ok-swap.ensures.origin) c.requires

pub returns-in_err-swap-clause-goes : goal.returns-in_err-swap-clause-goes
returns-in_err-swap-clause-goes g c = λ mode.
    let w = work_of c.args.work.now in
    fails_on {T = Unit {0}} (task_call mode c.args.task.now) _ _ (Next.Go (TaskStage.Swapping w)) c.in_err-swap.field-0.0 c.from_residual.result (λ _. Next.Go (releasing w (with_old_units w.journeys)))
    (λ given. Next.Over (Ok (stages.Done given))) (search rules) (c.in_err-swap.ensures.goes mode)

pub returns-in_err-units-clause-goes : goal.returns-in_err-units-clause-goes
returns-in_err-units-clause-goes g c = λ mode.
    let w = work_of c.args.work.now in
    breaks_off (task_call mode c.args.task.now) _ _ (Next.Go (TaskStage.Swapping w)) (Next.Go (releasing w (with_old_units w.journeys))) c.from_residual-in_err-units.result
    (λ given. Next.Over (Ok (stages.Done given))) (search rules) refl (c.in_ok-swap.ensures.goes mode)

pub returns-clause-goes : goal.returns-clause-goes
returns-clause-goes g c = λ mode.
    let call = task_call mode c.args.task.now in
    let w = work_of c.args.work.now in
    let b = g.P.Port.seen c.swap.new.port in
    let d = g.P.Port.seen c.finish.new.port in
    let is : c.as_slice-2.result.now ≡ with_old_units c.args.work.now.journeys.items = c.as_slice-2.ensures.value ∙ c.in_ok-units.ensures ∙ ap with_old_units c.as_slice.ensures.value in
    part_on call _ b d (Next.Go (TaskStage.Swapping w)) (Next.Go (releasing w (with_old_units w.journeys))) c.finish.result (λ given. Next.Over (Ok (stages.Done given))) (c.in_ok-swap.ensures.goes mode)
    (subst (λ (left : List Journey). GoesOn call b d (Next.Go (releasing w left)) c.finish.result (λ given. Next.Over (Ok (stages.Done given)))) is (c.finish.ensures.goes mode))
