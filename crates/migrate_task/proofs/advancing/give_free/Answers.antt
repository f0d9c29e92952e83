use Rattle.std.proofs.Common.{List, Ok, sym, ◌∙◌, subst, refl, rules}
use Rattle.volume_world.specs.Call.{Next}
use Rattle.migrate_task.specs.declared.work.Journey.{Journey}
use Rattle.migrate_task.specs.declared.stage.Stage.TheVariants as stages
use Rattle.migrate_task.specs.AdvanceCall.{task_call, releasing}
use Rattle.migrate_task.specs.TaskParts.{AreJourneys, GoesOn, work_of}
use Rattle.migrate_task.proofs.TaskLemmas.{proceeds_nowhere, breaks_off}
use Rattle.migrate_task.proofs.advancing.give_free.Goals as goal

pub returns-in_err-units-clause-goes : goal.returns-in_err-units-clause-goes
returns-in_err-units-clause-goes g c = λ mode.
    let from = Next.Go (releasing (work_of c.args.work.now) c.args.work.now.journeys.items) in
    breaks_off (task_call mode c.args.task.now) _ _ from from c.from_residual.result (λ units. Next.Over (Ok (stages.Done units))) (search rules) refl (proceeds_nowhere (task_call mode c.args.task.now) _ from)

pub finish-requires-clause-units : goal.finish-requires-clause-units
finish-requires-clause-units g c =
    subst (AreJourneys (g.P.Port.seen c.args.port.now).origin) (sym (c.as_slice-2.ensures.value ∙ c.in_ok-units.ensures.items ∙ c.as_slice.ensures.value)) c.requires.journeys

pub returns-clause-goes : goal.returns-clause-goes
returns-clause-goes g c = λ mode.
    subst (λ (left : List Journey). GoesOn (task_call mode c.args.task.now) (g.P.Port.seen c.args.port.now) (g.P.Port.seen c.finish.new.port) (Next.Go (releasing (work_of c.args.work.now) left)) c.finish.result (λ units. Next.Over (Ok (stages.Done units))))
    (c.as_slice-2.ensures.value ∙ c.in_ok-units.ensures.items ∙ c.as_slice.ensures.value) (c.finish.ensures.goes mode)
