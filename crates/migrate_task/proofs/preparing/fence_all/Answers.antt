use Rattle.std.proofs.Common.{◌≡◌, [], List, sym, ◌∙◌, ap, subst, rules}
use Rattle.migrate_task.specs.declared.work.Journey.{Journey}
use Rattle.migrate_task.specs.Work.{with_old_units}
use Rattle.migrate_task.specs.AdvanceCall.{task_call, fencing}
use Rattle.migrate_task.specs.TaskParts.{AreJourneys, GoesOn, work_of}
use Rattle.migrate_task.proofs.CutLemmas.{end_done, fencing_open}
use Rattle.migrate_task.proofs.TaskLemmas.{proceeds_nowhere, breaks_off}
use Rattle.migrate_task.proofs.WorkLemmas.{old_units_are}
use Rattle.migrate_task.proofs.preparing.fence_all.Goals as goal

pub returns-in_err-units-clause-goes : goal.returns-in_err-units-clause-goes
returns-in_err-units-clause-goes g c = λ mode task.
    let at = fencing (work_of c.args.work.now) (with_old_units c.args.work.now.journeys.items) in
    breaks_off {U = Unit {0}} (task_call mode task) _ _ at at c.from_residual.result (λ _. fencing (work_of c.args.work.now) []) (search rules) (end_done at (fencing_open (work_of c.args.work.now) (with_old_units c.args.work.now.journeys.items))) (proceeds_nowhere (task_call mode task) _ at)

pub fence_each-requires-clause-units : goal.fence_each-requires-clause-units
fence_each-requires-clause-units g c =
    let is : c.as_slice-2.result.now ≡ with_old_units c.args.work.now.journeys.items = c.as_slice-2.ensures.value ∙ c.in_ok-units.ensures ∙ ap with_old_units c.as_slice.ensures.value in
    subst (AreJourneys (g.P.Port.seen c.args.port.now).origin) (sym is) (old_units_are _ c.args.work.now.journeys.items c.requires.journeys)

pub returns-clause-goes : goal.returns-clause-goes
returns-clause-goes g c = λ mode task.
    let is : c.as_slice-2.result.now ≡ with_old_units c.args.work.now.journeys.items = c.as_slice-2.ensures.value ∙ c.in_ok-units.ensures ∙ ap with_old_units c.as_slice.ensures.value in
    subst (λ (units : List Journey). GoesOn {T = Unit {0}} (task_call mode task) (g.P.Port.seen c.args.port.now) (g.P.Port.seen c.fence_each.new.port) (fencing (work_of c.args.work.now) units) c.fence_each.result
    (λ _. fencing (work_of c.fence_each.new.work) [])) is (c.fence_each.ensures.goes mode task)
