use Rattle.std.proofs.Common.{◌≡◌, List, None, Ok, Err, sym, ◌∙◌, ap, subst, rules}
use Rattle.volume_world.specs.Way.{Origin}
use Rattle.volume_world.specs.Call.{Next}
use Rattle.volume_world.specs.Progress.{Proceeds}
use Rattle.volume_world.proofs.Comings.{proceeds_on}
use Rattle.migrate_task.specs.declared.copying.Errand.{Errand}
use Rattle.migrate_task.specs.declared.stage.Stage.TheVariants as stages
use Rattle.migrate_task.specs.Work.{errands}
use Rattle.migrate_task.specs.Copies.{next_errand}
use Rattle.migrate_task.specs.AdvanceCall.{TaskStage, task_call, creating, copying}
use Rattle.migrate_task.specs.TaskParts.{IsWorkOn, work_of}
use Rattle.migrate_task.specs.GatherParts.{AreErrands, coder_shape}
use Rattle.migrate_task.proofs.CutLemmas.{end_done, copying_open}
use Rattle.migrate_task.proofs.TaskLemmas.{fails_on, breaks_off, part_on}
use Rattle.migrate_task.proofs.advancing.move_units.Goals as goal

pub returns-in_err-heard-clause-goes : goal.returns-in_err-heard-clause-goes
returns-in_err-heard-clause-goes g c = λ mode.
    let was = work_of c.args.work.now in
    let w = work_of c.list_all.new.work in
    fails_on (task_call mode c.args.task.now) _ _ (creating was was.journeys) c.in_err-heard.field-0.0 c.from_residual.result (λ heard. copying w (next_errand w None (errands w heard.dests.items heard.units.items)))
    (λ units. Next.Over (Ok (stages.Done units))) (search rules) (c.in_err-heard.ensures.goes mode c.args.task.now)

pub returns-in_err-left-clause-goes : goal.returns-in_err-left-clause-goes
returns-in_err-left-clause-goes g c = λ mode.
    let was = work_of c.args.work.now in
    let w = work_of c.list_all.new.work in
    let heard = c.in_ok-heard.heard in
    breaks_off (task_call mode c.args.task.now) _ _ (creating was was.journeys) (copying w (next_errand w None (errands w heard.dests.items heard.units.items))) c.from_residual-in_err-left.result
    (λ units. Next.Over (Ok (stages.Done units))) (search rules) (end_done (copying w (next_errand w None (errands w heard.dests.items heard.units.items))) (copying_open w (next_errand w None (errands w heard.dests.items heard.units.items)))) (c.in_ok-heard.ensures.goes mode c.args.task.now)

pub run_all-requires-clause-coder : goal.run_all-requires-clause-coder
run_all-requires-clause-coder g c = c.requires.coder ∙ ap (λ (o : Origin). coder_shape o.mode) (sym c.in_ok-heard.ensures.origin)

pub run_all-requires-clause-work : goal.run_all-requires-clause-work
run_all-requires-clause-work g c = subst (λ (o : Origin). IsWorkOn o (work_of c.list_all.new.work)) (sym c.in_ok-heard.ensures.origin) c.in_ok-heard.ensures.work

pub run_all-requires-clause-errands : goal.run_all-requires-clause-errands
run_all-requires-clause-errands g c =
    let o = (g.P.Port.seen c.list_all.new.port).origin in
    subst (AreErrands o) (sym c.as_slice.ensures.value) (c.in_ok-left.ensures.each o (subst (λ (x : Origin). IsWorkOn x (work_of c.list_all.new.work)) (sym c.in_ok-heard.ensures.origin) c.in_ok-heard.ensures.work))

pub returns-in_err-run_all-clause-goes : goal.returns-in_err-run_all-clause-goes
returns-in_err-run_all-clause-goes g c = λ mode.
    let call = task_call mode c.args.task.now in
    let was = work_of c.args.work.now in
    let w = work_of c.list_all.new.work in
    let heard = c.in_ok-heard.heard in
    let a = g.P.Port.seen c.args.port.now in
    let b = g.P.Port.seen c.list_all.new.port in
    let d = g.P.Port.seen c.run_all.new.port in
    let is : c.as_slice.result.now ≡ errands w heard.dests.items heard.units.items = c.as_slice.ensures.value ∙ c.in_ok-left.ensures.all in
    let then = λ (_ : Unit {0}). Next.Go (TaskStage.Swapping w) in
    fails_on {T = Unit {0}} call a d (creating was was.journeys) c.in_err-run_all.field-0.0 c.from_residual-in_err-run_all.result then (λ units. Next.Over (Ok (stages.Done units))) (search rules)
    (part_on {T = Unit {0}} call a b d (creating was was.journeys) (copying w (next_errand w None c.as_slice.result.now)) (Err c.in_err-run_all.field-0.0) then
    (subst (λ (es : List Errand). Proceeds call a b (creating was was.journeys) (copying w (next_errand w None es))) (sym is) (c.in_ok-heard.ensures.goes mode c.args.task.now)) (c.in_err-run_all.ensures.goes mode c.args.task.now))

pub complete-requires : goal.complete-requires
complete-requires g c = subst (λ (o : Origin). IsWorkOn o (work_of c.list_all.new.work)) (sym (c.in_ok-run_all.ensures.origin ∙ c.in_ok-heard.ensures.origin)) c.in_ok-heard.ensures.work

pub returns-clause-goes : goal.returns-clause-goes
returns-clause-goes g c = λ mode.
    let call = task_call mode c.args.task.now in
    let was = work_of c.args.work.now in
    let w = work_of c.list_all.new.work in
    let heard = c.in_ok-heard.heard in
    let a = g.P.Port.seen c.args.port.now in
    let b = g.P.Port.seen c.list_all.new.port in
    let d = g.P.Port.seen c.run_all.new.port in
    let is : c.as_slice.result.now ≡ errands w heard.dests.items heard.units.items = c.as_slice.ensures.value ∙ c.in_ok-left.ensures.all in
    let at = copying w (next_errand w None c.as_slice.result.now) in
    let first = subst (λ (es : List Errand). Proceeds call a b (creating was was.journeys) (copying w (next_errand w None es))) (sym is) (c.in_ok-heard.ensures.goes mode c.args.task.now) in
    part_on call a d _ (creating was was.journeys) (Next.Go (TaskStage.Swapping w)) c.complete.result (λ units. Next.Over (Ok (stages.Done units)))
    (proceeds_on call a b d (creating was was.journeys) at (Next.Go (TaskStage.Swapping w)) first (c.in_ok-run_all.ensures.goes mode c.args.task.now)) (c.complete.ensures.goes mode)
