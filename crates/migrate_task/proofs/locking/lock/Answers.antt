use Rattle.std.proofs.Common.{◌≡◌, sym, ◌∙◌, ap, subst, rules}
use Rattle.code_mode.specs.declared.mode.Mode.{Mode}
use Rattle.volume_world.specs.Way.{Origin}
use Rattle.volume_world.specs.Call.{Next}
use Rattle.volume_world.specs.Progress.{Proceeds}
use Rattle.migrate_task.specs.Work.{Work, journeys_to}
use Rattle.migrate_task.specs.AdvanceCall.{TaskStage, task_call, creating}
use Rattle.migrate_task.specs.TaskParts.{granted, work_of, work_to, IsWorkOn}
use Rattle.migrate_task.proofs.CutLemmas.{end_done, creating_open}
use Rattle.migrate_task.proofs.TaskLemmas.{fails_on, breaks_off}
use Rattle.migrate_task.proofs.WorkLemmas.{work_on_to}
use Rattle.migrate_task.proofs.locking.lock.Goals as goal

pub work_to-requires : goal.work_to-requires
work_to-requires g c = ((g.P.Port.seen c.args.port.now).origin, c.requires.homes, c.in_ok-grant.ensures.shown)

pub returns-in_err-grant-clause-goes : goal.returns-in_err-grant-clause-goes
returns-in_err-grant-clause-goes g c =
    let mode = (g.P.Port.seen c.args.port.now).origin.mode in
    fails_on (task_call mode c.args.task.now) _ _ (Next.Go (TaskStage.Locking c.args.homes.now)) c.in_err-grant.field-0.0 c.from_residual.result
    (λ grant. granted mode c.args.task.now c.args.homes.now grant.lock grant.moves) (λ work. creating (work_of work) work.journeys.items) (search rules)
    (c.in_err-grant.ensures.goes mode c.args.homes.now)

pub returns-in_err-work-clause-goes : goal.returns-in_err-work-clause-goes
returns-in_err-work-clause-goes g c =
    let mode = (g.P.Port.seen c.args.port.now).origin.mode in
    breaks_off (task_call mode c.args.task.now) _ _ (Next.Go (TaskStage.Locking c.args.homes.now)) (granted mode c.args.task.now c.args.homes.now c.in_ok-grant.grant.lock c.in_ok-grant.grant.moves)
    c.from_residual-in_err-work.result (λ work. creating (work_of work) work.journeys.items) (search rules) (end_done (granted mode c.args.task.now c.args.homes.now c.in_ok-grant.grant.lock c.in_ok-grant.grant.moves)
    (creating_open (work_to mode c.args.task.now c.args.homes.now c.in_ok-grant.grant.lock c.in_ok-grant.grant.moves) (journeys_to c.args.homes.now c.in_ok-grant.grant.moves))) (c.in_ok-grant.ensures.goes mode c.args.homes.now)

pub returns-clause-goes : goal.returns-clause-goes
returns-clause-goes g c =
    let a = g.P.Port.seen c.args.port.now in
    let grant = c.in_ok-grant.grant in
    let same : c.mode-mode.result ≡ a.origin.mode = c.mode-mode.ensures ∙ ap (λ (o : Origin). o.mode) c.in_ok-grant.ensures.origin in
    let is : work_of c.in_ok-work.work ≡ work_to a.origin.mode c.args.task.now c.args.homes.now grant.lock grant.moves =
    c.in_ok-work.ensures ∙ ap (λ (m : Mode). work_to m c.args.task.now c.args.homes.now grant.lock grant.moves) same in
    subst (λ (w : Work). Proceeds (task_call a.origin.mode c.args.task.now) a (g.P.Port.seen c.ask_lock.new.port) (Next.Go (TaskStage.Locking c.args.homes.now)) (creating w w.journeys)) (sym is)
    (c.in_ok-grant.ensures.goes a.origin.mode c.args.homes.now)

pub returns-clause-work : goal.returns-clause-work
returns-clause-work g c =
    let a = g.P.Port.seen c.args.port.now in
    let grant = c.in_ok-grant.grant in
    let same : c.mode-mode.result ≡ a.origin.mode = c.mode-mode.ensures ∙ ap (λ (o : Origin). o.mode) c.in_ok-grant.ensures.origin in
    subst (IsWorkOn a.origin) (sym c.in_ok-work.ensures) (work_on_to a.origin c.mode-mode.result c.args.task.now.id grant.lock c.args.homes.now grant.moves same c.requires.homes c.in_ok-grant.ensures.shown)
