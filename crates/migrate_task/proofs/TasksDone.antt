-- In a calm stretch one call takes a task that can go on to its end.
use Rattle.std.proofs.Common.{◌≡◌, ℕ, ◌+◌, ◌⊎◌, inl, inr, Bool, false, List, [], ◌∷◌, Some, Result, Ok, Err, refl, sym, ◌∙◌, ap, subst}
use Rattle.unit_id.specs.Lists.{IsIn}
use Rattle.unit_id.specs.Place.{Location}
use Rattle.unit_id.specs.declared.homes.Home.{Home}
use Rattle.unit_id.specs.declared.moves.Move.{Move}
use Rattle.unit_id.specs.declared.targets.Target.{Target}
use Rattle.unit_id.specs.declared.task.Task.{Task}
use Rattle.code_mode.specs.declared.mode.Mode.{Mode}
use Rattle.code_mode.specs.VolumeShape.{VolumeShape}
use Rattle.volume_entry.specs.Manager.{Transfer, Lock, Manager, transfers_of, transfers_to}
use Rattle.volume_entry.specs.ManagerStep.{grants_of}
use Rattle.volume_entry.specs.View.{homes_shown, moves_shown}
use Rattle.volume_entry.specs.ShownView.{lock_shown}
use Rattle.volume_entry.specs.declared.view.View.{View}
use Rattle.volume_world.specs.Run.{World}
use Rattle.volume_world.specs.Invariant.{Kept}
use Rattle.volume_world.specs.Way.{Origin, shape_of}
use Rattle.volume_world.specs.Course.{Part, PartsLead, IsDone}
use Rattle.volume_world.specs.Call.{Next, IsRest}
use Rattle.volume_world.specs.declared.reply.Reply.{Reply as CodeReply}
use Rattle.volume_world.specs.declared.reply.Reply.TheVariants as replies
use Rattle.migrate_task.specs.declared.stage.Stage.{Stage}
use Rattle.migrate_task.specs.declared.stage.TaskFault.{TaskFault}
use Rattle.migrate_task.specs.declared.stage.TaskFault.TheVariants as faults
use Rattle.migrate_task.specs.Work.{Work, journeys_to}
use Rattle.migrate_task.specs.AdvanceCall.{TaskStage, task_call, creating, after_look, after_lock}
use Rattle.migrate_task.specs.Completion.{IsCalm, IsLockableFor, IsSound, IsLockedFor, TasksGetDone}
use Rattle.migrate_task.proofs.BegunNumbers.{AreNumbered, same_numbers, begun_numbers}
use Rattle.migrate_task.proofs.HeardSends.{IsBy}
use Rattle.volume_world.specs.Possible.{IsPossible}
use Rattle.volume_world.proofs.PossibleStates.{possible_kept}
use Rattle.migrate_task.proofs.SwappedCalls.{Ends, look_seen, swapped_tasks_get_done}
use Rattle.migrate_task.proofs.LockedCalls.{IsGranted, lock_now, looked}
use Rattle.migrate_task.proofs.LockedPoints.{shown_homes, work_for}
use Rattle.migrate_task.proofs.LockedEnds.{IsGoodLock, from_lock, scene_of, first_ground, first_stands, sound_on}
use Rattle.migrate_task.proofs.RetargetedEnds.{locked_ends}

-- ---- a lock that was granted now

-- the lock that is granted to a task
abbrev lock_of : Task → Manager → Lock
lock_of task m = record { task = task.id; number = m.granted + 1; transfers = transfers_to (grants_of m.greatest task.targets) m.homes; is_swapped = false }

granted_good : (broken : ℕ → Bool) (greatest : List ℕ) (homes : List Location) (targets : List Target) → ((t : Target) → IsIn t targets → broken t.disk ≡ false)
    → (t : Transfer) → IsIn t (transfers_to (grants_of greatest targets) homes) → broken t.dest.disk ≡ false
granted_good broken greatest homes [] good t i = absurd i
granted_good broken greatest homes (x ∷ targets) good t (inl here) = ap (λ (y : Transfer). broken y.dest.disk) here ∙ good x (inl refl)
granted_good broken greatest homes (x ∷ targets) good t (inr there) = granted_good broken greatest homes targets (λ y i. good y (inr i)) t there

sound_later : (shape : VolumeShape) (task : Task) (vid : ℕ) (reply : CodeReply) (w u : World) → IsSound shape w → IsBy w u (λ n. IsGranted vid task w n reply) → IsSound shape u
sound_later shape task vid reply w u h by =
    sound_on shape w u h (ap (λ (m : Manager). m.homes) by.gives.record_is) (ap (λ (m : Manager). m.is_shut) by.gives.record_is) by.units by.puts by.broken by.planned

good_later : (task : Task) (vid : ℕ) (reply : CodeReply) (w u : World) → IsLockableFor task w → IsBy w u (λ n. IsGranted vid task w n reply)
    → (t : Transfer) → IsIn t (lock_of task w.state.manager).transfers → u.state.broken t.dest.disk ≡ false
good_later task vid reply w u h by t i = ap (λ (b : ℕ → Bool). b t.dest.disk) by.broken ∙ granted_good w.state.broken w.state.manager.greatest w.state.manager.homes task.targets h.unbroken t i

-- by these units, this number and these moves
abbrev work_with : Mode → Task → List Home → ℕ → List Move → Work
work_with mode task homes number moves = record { mode = mode; task = task.id; lock = number; homes = homes; journeys = journeys_to homes moves }

-- ---- from a volume that is free for the task

grant_ends : (origin : Origin) (task : Task) (units : List Home) (parts : List Part) (result : Result Stage TaskFault) (w v : World) → Kept (shape_of origin) w.state → AreNumbered w.state → IsSound (shape_of origin) w → IsLockableFor task w
    → units ≡ homes_shown origin.vid 0 w.state.broken w.state.manager.homes → PartsLead origin w parts v → IsCalm parts → IsRest (task_call origin.mode task) (Next.Go (TaskStage.Locking units)) parts result → Ends result
grant_ends origin task units [] result w v kept numbers sound ready shown leads calm rest = absurd rest
grant_ends origin task units (Part.Beside trace ∷ parts) result w v kept numbers sound ready shown leads calm rest = absurd calm
grant_ends origin task units (Part.Settling trace ∷ parts) result w v kept numbers sound ready shown leads calm rest = absurd calm
grant_ends origin task units (Part.Asking event reply ∷ parts) result w v kept numbers sound ready shown leads calm rest =
    let u = leads.0 in
    let now = lock_now origin task w u reply ready (subst (λ x. IsDone origin w x reply u) rest.0 leads.1) calm.0 in
    let by = now.by in
    let granted : IsGranted origin.vid task w u.state.manager reply = by.gives in
    let later = now.leads kept in
    let good = sound_later (shape_of origin) task origin.vid reply w u sound by in
    let lock = lock_of task w.state.manager in
    let held : u.state.manager.lock ≡ Some lock = ap (λ (m : Manager). m.lock) granted.record_is in
    let locked : IsGoodLock task u = record { lock = lock; held = held; own = refl; unswapped = refl; good = good_later task origin.vid reply w u ready by } in
    let s = scene_of origin task lock u in
    let homes : units ≡ shown_homes s = shown ∙ (λ k. homes_shown origin.vid 0 (sym by.broken k) (sym (ap (λ (m : Manager). m.homes) granted.record_is) k)) in
    let moves : granted.moves ≡ moves_shown origin.vid u.state.broken false lock.transfers =
    granted.shown ∙ (λ k. moves_shown origin.vid (sym by.broken k) false (transfers_of (held k))) in
    let next : after_lock origin.mode task units (replies.Granted granted.lock granted.moves) ≡ creating (work_for s) (work_for s).journeys =
    λ k. creating (work_with origin.mode task (homes k) (granted.number k) (moves k)) (journeys_to (homes k) (moves k)) in
    (from_lock s u v parts result (first_ground origin task u later (same_numbers w.state u.state by.puts numbers) good locked) (first_stands origin task u later good locked) calm.1 leads.2
    (subst (λ x. IsRest (task_call origin.mode task) x parts result) next (subst (λ r. IsRest (task_call origin.mode task) (after_lock origin.mode task units r) parts result) granted.is rest.1))).0

free_ends : (origin : Origin) (task : Task) (parts : List Part) (result : Result Stage TaskFault) (w v : World) → Kept (shape_of origin) w.state → AreNumbered w.state → IsSound (shape_of origin) w → IsLockableFor task w
    → PartsLead origin w parts v → IsCalm parts → IsRest (task_call origin.mode task) (Next.Go TaskStage.Looking) parts result → Ends result
free_ends origin task [] result w v kept numbers sound ready leads calm rest = absurd rest
free_ends origin task (Part.Beside trace ∷ parts) result w v kept numbers sound ready leads calm rest = absurd calm
free_ends origin task (Part.Settling trace ∷ parts) result w v kept numbers sound ready leads calm rest = absurd calm
free_ends origin task (Part.Asking event reply ∷ parts) result w v kept numbers sound ready leads calm rest =
    let seen = look_seen origin w leads.0 reply ready.unshut (subst (λ x. IsDone origin w x reply leads.0) rest.0 leads.1) in
    let held = ap (λ (x : View). x.held) seen.shown ∙ ap (lock_shown origin.vid w.state.broken) ready.free in
    let next = looked origin.mode task seen.view held ready.disks in
    grant_ends origin task seen.view.units parts result w v kept numbers sound ready (ap (λ (x : View). x.units) seen.shown) (subst (λ x. PartsLead origin x parts v) seen.same leads.2) calm.1
    (subst (λ x. IsRest (task_call origin.mode task) x parts result) next (subst (λ r. IsRest (task_call origin.mode task) (after_look origin.mode task r) parts result) seen.is rest.1))

-- ---- all of it

sound_ends : (origin : Origin) (task : Task) (parts : List Part) (result : Result Stage TaskFault) (w v : World) → IsPossible origin w → IsSound (shape_of origin) w → IsLockableFor task w ⊎ IsLockedFor task w
    → PartsLead origin w parts v → IsCalm parts → IsRest (task_call origin.mode task) (Next.Go TaskStage.Looking) parts result → Ends result
sound_ends origin task parts result w v possible sound (inl ready) leads calm rest = free_ends origin task parts result w v (possible_kept origin w possible) (begun_numbers origin w possible) sound ready leads calm rest
sound_ends origin task parts result w v possible sound (inr ready) leads calm rest = (locked_ends origin task parts result w v possible sound ready leads calm rest).0

pub tasks_get_done : TasksGetDone
tasks_get_done origin task parts result w v possible (inr swapped) call leads calm = swapped_tasks_get_done origin task parts result w v possible swapped call leads calm
tasks_get_done origin task parts (Err faults.HistoryFull) w v possible (inl ready) call leads calm = inr tt
tasks_get_done origin task parts (Err faults.Memory) w v possible (inl ready) call leads calm = inr tt
tasks_get_done origin task parts (Err other) w v possible (inl ready) call leads calm = inl (sound_ends origin task parts (Err other) w v possible ready.0 ready.1 leads calm call)
tasks_get_done origin task parts (Ok stage) w v possible (inl ready) call leads calm = inl (sound_ends origin task parts (Ok stage) w v possible ready.0 ready.1 leads calm call)
