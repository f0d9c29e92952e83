-- Lemmas on how a call begins.
use Rattle.std.proofs.Common.{◌≡◌, true, false, cond, List, filter, sym, ◌∙◌, ap}
use Rattle.unit_id.specs.declared.homes.Home.{Home}
use Rattle.unit_id.specs.declared.moves.Move.{Move}
use Rattle.unit_id.specs.declared.task.Task.{Task}
use Rattle.code_mode.specs.declared.mode.Mode.{Mode}
use Rattle.volume_entry.specs.declared.view.LockView.{LockView}
use Rattle.volume_world.specs.Call.{Next}
use Rattle.migrate_task.specs.Work.{Work, journeys_from}
use Rattle.migrate_task.specs.AdvanceCall.{releasing, retargeting}
use Rattle.migrate_task.specs.TaskParts.{own_lock, work_to}

-- a lock that isn't swapped
pub open_lock : (mode : Mode) (task : Task) (homes : List Home) (held : LockView) (work : Work) (moves : List Move) → held.swapped ≡ false → work ≡ work_to mode task homes held.lock held.moves
    → moves ≡ filter (λ (move : Move). move.dest_broken) held.moves → own_lock mode task homes held ≡ retargeting task.targets work moves
open_lock mode task homes held work moves e is some =
    ap (λ test. cond test (Next.Go (releasing (record { mode = mode; task = task.id; lock = held.lock; homes = homes; journeys = journeys_from homes held.moves }) (journeys_from homes held.moves)))
    (retargeting task.targets (work_to mode task homes held.lock held.moves) (filter (λ (move : Move). move.dest_broken) held.moves))) e
    ∙ ap (λ w. retargeting task.targets w (filter (λ (move : Move). move.dest_broken) held.moves)) (sym is) ∙ ap (retargeting task.targets work) (sym some)

-- a lock that is swapped
pub swapped_lock : (mode : Mode) (task : Task) (homes : List Home) (held : LockView) (work : Work) → held.swapped ≡ true
    → work ≡ record { mode = mode; task = task.id; lock = held.lock; homes = homes; journeys = journeys_from homes held.moves } → own_lock mode task homes held ≡ Next.Go (releasing work work.journeys)
swapped_lock mode task homes held work e is =
    ap (λ test. cond test (Next.Go (releasing (record { mode = mode; task = task.id; lock = held.lock; homes = homes; journeys = journeys_from homes held.moves }) (journeys_from homes held.moves)))
    (retargeting task.targets (work_to mode task homes held.lock held.moves) (filter (λ (move : Move). move.dest_broken) held.moves))) e
    ∙ ap (λ (w : Work). Next.Go (releasing w w.journeys)) (sym is)
