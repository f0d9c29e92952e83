use Rattle.std.proofs.Common.{◌≡◌, [], filter, Err, sym, ◌∙◌, ap, subst, rules}
use Rattle.unit_id.specs.declared.moves.Move.{Move}
use Rattle.code_mode.specs.declared.mode.Mode.{Mode}
use Rattle.volume_world.specs.Replying.{AreMovesEach}
use Rattle.volume_world.specs.Progress.{Proceeds}
use Rattle.migrate_task.specs.AdvanceCall.{TaskNext, task_call, creating, retargeting}
use Rattle.migrate_task.specs.TaskParts.{GoesOn, IsWorkOn, own_lock, work_of, work_to}
use Rattle.migrate_task.proofs.CutLemmas.{end_done, own_open}
use Rattle.migrate_task.proofs.TaskLemmas.{proceeds_nowhere, fails_on, breaks_off}
use Rattle.migrate_task.proofs.WorkLemmas.{work_on_to, some_moves_are}
use Rattle.migrate_task.proofs.StartLemmas.{open_lock}
use Rattle.migrate_task.proofs.starting.go_on.Goals as goal

pub work_to-requires : goal.work_to-requires
work_to-requires g c = ((g.P.Port.seen c.args.port.now).origin, c.requires.homes, c.requires.moves)

pub returns-in_err-work-clause-goes : goal.returns-in_err-work-clause-goes
returns-in_err-work-clause-goes g c =
    let a = g.P.Port.seen c.args.port.now in
    let call = task_call a.origin.mode c.args.task.now in
    let from = own_lock a.origin.mode c.args.task.now c.args.homes.now c.args.held.now in
    breaks_off call a a from from c.from_residual.result (λ work. creating (work_of work) work.journeys.items) (search rules) (end_done from (own_open a.origin.mode c.args.task.now c.args.homes.now c.args.held.now)) (proceeds_nowhere call a from)

pub returns-in_err-broken-clause-goes : goal.returns-in_err-broken-clause-goes
returns-in_err-broken-clause-goes g c =
    let a = g.P.Port.seen c.args.port.now in
    let call = task_call a.origin.mode c.args.task.now in
    let from = own_lock a.origin.mode c.args.task.now c.args.homes.now c.args.held.now in
    breaks_off call a a from from c.from_residual-in_err-broken.result (λ work. creating (work_of work) work.journeys.items) (search rules) (end_done from (own_open a.origin.mode c.args.task.now c.args.homes.now c.args.held.now)) (proceeds_nowhere call a from)

pub retarget_all-requires-clause-work : goal.retarget_all-requires-clause-work
retarget_all-requires-clause-work g c =
    let a = g.P.Port.seen c.args.port.now in
    subst (IsWorkOn a.origin) (sym c.in_ok-work.ensures)
    (work_on_to a.origin c.mode-mode.result c.args.task.now.id c.args.held.now.lock c.args.homes.now c.args.held.now.moves c.mode-mode.ensures c.requires.homes c.requires.moves)

pub retarget_all-requires-clause-moves : goal.retarget_all-requires-clause-moves
retarget_all-requires-clause-moves g c =
    let a = g.P.Port.seen c.args.port.now in
    let some : c.as_slice-2.result.now ≡ filter (λ (move : Move). move.dest_broken) c.args.held.now.moves =
    c.as_slice-2.ensures.value ∙ c.in_ok-broken.ensures ∙ ap (filter (λ (move : Move). move.dest_broken)) c.as_slice.ensures in
    subst (AreMovesEach a.origin) (sym some) (some_moves_are a.origin c.args.held.now.moves c.requires.moves.each)

pub returns-in_err-retarget_all-clause-goes : goal.returns-in_err-retarget_all-clause-goes
returns-in_err-retarget_all-clause-goes g c =
    let a = g.P.Port.seen c.args.port.now in
    let b = g.P.Port.seen c.retarget_all.new.port in
    let task = c.args.task.now in
    let call = task_call a.origin.mode task in
    let from = own_lock a.origin.mode task c.args.homes.now c.args.held.now in
    let is : work_of c.in_ok-work.work ≡ work_to a.origin.mode task c.args.homes.now c.args.held.now.lock c.args.held.now.moves =
    c.in_ok-work.ensures ∙ ap (λ (m : Mode). work_to m task c.args.homes.now c.args.held.now.lock c.args.held.now.moves) c.mode-mode.ensures in
    let some : c.as_slice-2.result.now ≡ filter (λ (move : Move). move.dest_broken) c.args.held.now.moves =
    c.as_slice-2.ensures.value ∙ c.in_ok-broken.ensures ∙ ap (filter (λ (move : Move). move.dest_broken)) c.as_slice.ensures in
    let at = open_lock a.origin.mode task c.args.homes.now c.args.held.now (work_of c.in_ok-work.work) c.as_slice-2.result.now c.requires.open is some in
    let halt = c.in_err-retarget_all.field-0.0 in
    fails_on {T = Unit {0}} call a b from halt c.from_residual-in_err-retarget_all.result (λ _. retargeting task.targets (work_of c.retarget_all.new.work) []) (λ work. creating (work_of work) work.journeys.items) (search rules)
    (subst (λ (next : TaskNext). GoesOn {T = Unit {0}} call a b next (Err halt) (λ _. retargeting task.targets (work_of c.retarget_all.new.work) [])) (sym at) (c.in_err-retarget_all.ensures.goes a.origin.mode))

pub returns-clause-goes : goal.returns-clause-goes
unfolding retargeting
returns-clause-goes g c =
    let a = g.P.Port.seen c.args.port.now in
    let b = g.P.Port.seen c.retarget_all.new.port in
    let task = c.args.task.now in
    let is : work_of c.in_ok-work.work ≡ work_to a.origin.mode task c.args.homes.now c.args.held.now.lock c.args.held.now.moves =
    c.in_ok-work.ensures ∙ ap (λ (m : Mode). work_to m task c.args.homes.now c.args.held.now.lock c.args.held.now.moves) c.mode-mode.ensures in
    let some : c.as_slice-2.result.now ≡ filter (λ (move : Move). move.dest_broken) c.args.held.now.moves =
    c.as_slice-2.ensures.value ∙ c.in_ok-broken.ensures ∙ ap (filter (λ (move : Move). move.dest_broken)) c.as_slice.ensures in
    let at = open_lock a.origin.mode task c.args.homes.now c.args.held.now (work_of c.in_ok-work.work) c.as_slice-2.result.now c.requires.open is some in
    subst (λ (next : TaskNext). Proceeds (task_call a.origin.mode task) a b next (retargeting task.targets (work_of c.retarget_all.new.work) [])) (sym at) (c.in_ok-retarget_all.ensures.goes a.origin.mode)

pub returns-clause-work : goal.returns-clause-work
returns-clause-work g c = c.in_ok-retarget_all.ensures.work
