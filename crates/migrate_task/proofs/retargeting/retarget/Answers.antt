use Rattle.std.proofs.Common.{◌∷◌, sym, subst, rules}
use Rattle.volume_world.specs.Progress.{Proceeds}
use Rattle.migrate_task.specs.Work.{Work, journeys_to}
use Rattle.migrate_task.specs.AdvanceCall.{task_call, retargeting}
use Rattle.migrate_task.specs.TaskParts.{IsWorkOn, work_of, granted_again}
use Rattle.migrate_task.proofs.CutLemmas.{end_done, retargeting_open}
use Rattle.migrate_task.proofs.TaskLemmas.{fails_on, breaks_off}
use Rattle.migrate_task.proofs.WorkLemmas.{work_again}
use Rattle.migrate_task.proofs.retargeting.retarget.Goals as goal

pub move_again-requires : goal.move_again-requires
move_again-requires g c = ((g.P.Port.seen c.args.port.now).origin, c.requires.work, c.in_ok-moves.ensures.shown)

pub returns-in_err-moves-clause-goes : goal.returns-in_err-moves-clause-goes
returns-in_err-moves-clause-goes g c = λ mode left.
    let task = c.args.task.now in
    let was = work_of c.args.work.now in
    fails_on (task_call mode task) _ _ (retargeting task.targets was (c.args.item.now ∷ left)) c.in_err-moves.field-0.0 c.from_residual.result (granted_again task was left) (λ _. retargeting task.targets was left) (search rules)
    (c.in_err-moves.ensures.goes mode was left)

pub returns-in_err-move_again-clause-goes : goal.returns-in_err-move_again-clause-goes
returns-in_err-move_again-clause-goes g c = λ mode left.
    let task = c.args.task.now in
    let was = work_of c.args.work.now in
    breaks_off (task_call mode task) _ _ (retargeting task.targets was (c.args.item.now ∷ left)) (granted_again task was left c.in_ok-moves.moves) c.from_residual-in_err-move_again.result
    (λ _. retargeting task.targets (work_of c.move_again.new.work) left) (search rules) (end_done (granted_again task was left c.in_ok-moves.moves) (retargeting_open task.targets (record was { journeys = journeys_to was.homes c.in_ok-moves.moves }) left)) (c.in_ok-moves.ensures.goes mode was left)

pub returns-in_err-move_again-clause-work : goal.returns-in_err-move_again-clause-work
returns-in_err-move_again-clause-work g c = subst (IsWorkOn (g.P.Port.seen c.args.port.now).origin) (sym c.in_err-move_again.ensures.err) c.requires.work

pub returns-clause-goes : goal.returns-clause-goes
returns-clause-goes g c = λ mode left.
    let task = c.args.task.now in
    let was = work_of c.args.work.now in
    subst (λ (w : Work). Proceeds (task_call mode task) (g.P.Port.seen c.args.port.now) (g.P.Port.seen c.ask_retarget.new.port) (retargeting task.targets was (c.args.item.now ∷ left)) (retargeting task.targets w left))
    (sym c.in_ok-move_again.ensures.ok) (c.in_ok-moves.ensures.goes mode was left)

pub returns-clause-work : goal.returns-clause-work
returns-clause-work g c =
    subst (IsWorkOn (g.P.Port.seen c.args.port.now).origin) (sym c.in_ok-move_again.ensures.ok) (work_again _ (work_of c.args.work.now) c.in_ok-moves.moves c.requires.work c.in_ok-moves.ensures.shown)
