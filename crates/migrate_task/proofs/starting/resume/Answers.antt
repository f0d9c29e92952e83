use Rattle.std.proofs.Common.{◌≡◌, sym, ◌∙◌, ap, subst, rules}
use Rattle.code_mode.specs.declared.mode.Mode.{Mode}
use Rattle.volume_world.specs.Call.{Next}
use Rattle.volume_world.specs.Progress.{Proceeds}
use Rattle.migrate_task.specs.Work.{journeys_from}
use Rattle.migrate_task.specs.AdvanceCall.{TaskNext, task_call, releasing}
use Rattle.migrate_task.specs.TaskParts.{IsWorkOn, own_lock, starting, work_of}
use Rattle.migrate_task.proofs.CutLemmas.{end_done, own_open}
use Rattle.migrate_task.proofs.TaskLemmas.{proceeds_nowhere, breaks_off}
use Rattle.migrate_task.proofs.WorkLemmas.{work_on_from}
use Rattle.migrate_task.proofs.StartLemmas.{swapped_lock}
use Rattle.migrate_task.proofs.starting.resume.Goals as goal

pub work_from-requires : goal.work_from-requires
work_from-requires g c = ((g.P.Port.seen c.args.port.now).origin, c.requires.homes, c.requires.moves)

pub returns-in_err-work-clause-goes : goal.returns-in_err-work-clause-goes
returns-in_err-work-clause-goes g c =
    let a = g.P.Port.seen c.args.port.now in
    let call = task_call a.origin.mode c.args.task.now in
    let from = own_lock a.origin.mode c.args.task.now c.args.homes.now c.args.held.now in
    breaks_off call a a from from c.from_residual.result starting (search rules) (end_done from (own_open a.origin.mode c.args.task.now c.args.homes.now c.args.held.now)) (proceeds_nowhere call a from)

pub returns-then-held-clause-goes : goal.returns-then-held-clause-goes
returns-then-held-clause-goes g c =
    let a = g.P.Port.seen c.args.port.now in
    let task = c.args.task.now in
    let call = task_call a.origin.mode task in
    let work = work_of c.in_ok-work.work in
    let is : work_of c.in_ok-work.work ≡ record { mode = a.origin.mode; task = task.id; lock = c.args.held.now.lock; homes = c.args.homes.now; journeys = journeys_from c.args.homes.now c.args.held.now.moves } =
    c.in_ok-work.ensures ∙ ap (λ (m : Mode). record { mode = m; task = c.args.task.now.id; lock = c.args.held.now.lock; homes = c.args.homes.now; journeys = journeys_from c.args.homes.now c.args.held.now.moves }) c.mode-mode.ensures in
    subst (λ (next : TaskNext). Proceeds call a a next (Next.Go (releasing work work.journeys))) (sym (swapped_lock a.origin.mode task c.args.homes.now c.args.held.now work c.if-held.true is))
    (proceeds_nowhere call a (Next.Go (releasing work work.journeys)))

pub returns-then-held-clause-work : goal.returns-then-held-clause-work
returns-then-held-clause-work g c =
    let a = g.P.Port.seen c.args.port.now in
    subst (IsWorkOn a.origin) (sym c.in_ok-work.ensures)
    (work_on_from a.origin c.mode-mode.result c.args.task.now.id c.args.held.now.lock c.args.homes.now c.args.held.now.moves c.mode-mode.ensures c.requires.homes c.requires.moves)
