-- In a calm stretch a task that may have the lock gets it.
use Rattle.std.proofs.Common.{◌≡◌, ℕ, ◌+◌, inl, inr, nat_lt, Bool, false, cond, List, [], ◌∷◌, None, Result, Ok, Err, refl, sym, ◌∙◌, ap, subst}
use Rattle.std.specs.Prelude.{is_some}
use Rattle.std.proofs.lemmas.Bool.{le-ltb}
use Rattle.unit_id.specs.Lists.{any, first_that_holds}
use Rattle.unit_id.specs.declared.moves.Move.{Move}
use Rattle.unit_id.specs.declared.targets.Target.{Target}
use Rattle.unit_id.specs.declared.task.Task.{Task}
use Rattle.unit_id.proofs.Bools.{contrary}
use Rattle.code_mode.specs.declared.mode.Mode.{Mode}
use Rattle.code_mode.specs.VolumeShape.{VolumeShape}
use Rattle.code_mode.proofs.Numbers.{sound_shapes}
use Rattle.volume_entry.specs.Manager.{Manager, transfers_of, written}
use Rattle.volume_entry.specs.ManagerStep.{task_of, or_zero, first_held, is_spent, lock_refusal, lock_record, Locks}
use Rattle.volume_entry.specs.View.{moves_shown}
use Rattle.volume_entry.specs.ShownView.{lock_shown}
use Rattle.volume_entry.specs.declared.view.View.{View}
use Rattle.volume_entry.specs.Reply.{Reply}
use Rattle.volume_world.specs.Event.{Event}
use Rattle.volume_world.specs.Run.{World, Step, Leads, Does, IsRefusedByLog}
use Rattle.volume_world.specs.Invariant.{Kept}
use Rattle.volume_world.specs.Told.{Tells}
use Rattle.volume_world.specs.Way.{Origin, shape_of}
use Rattle.volume_world.specs.Course.{Part, PartsLead, IsDone}
use Rattle.volume_world.specs.Call.{Next, IsRest}
use Rattle.volume_world.specs.Trace.{reply_kept}
use Rattle.volume_world.specs.declared.event.Event.{Event as CodeEvent}
use Rattle.volume_world.specs.declared.event.Event.TheVariants as events
use Rattle.volume_world.specs.declared.reply.Reply.{Reply as CodeReply}
use Rattle.volume_world.specs.declared.reply.Reply.TheVariants as replies
use Rattle.migrate_task.specs.declared.stage.Stage.{Stage}
use Rattle.migrate_task.specs.declared.stage.TaskFault.{TaskFault}
use Rattle.migrate_task.specs.declared.stage.TaskFault.TheVariants as faults
use Rattle.migrate_task.specs.declared.stage.Why.TheVariants as why
use Rattle.migrate_task.specs.AdvanceCall.{TaskStage, task_call, waits, after_view, after_look}
use Rattle.migrate_task.specs.TaskParts.{lacks_disk}
use Rattle.migrate_task.specs.Endings.{Asked, asked_in}
use Rattle.migrate_task.specs.Completion.{IsUntroubled, IsCalm, IsLockableFor, IsGrantedLock, TasksGetTheLock}
use Rattle.volume_world.proofs.Telling.{entry_keeps}
use Rattle.migrate_task.proofs.HeardSends.{IsBy, is_by}
use Rattle.migrate_task.proofs.SwappedCalls.{any_none, some_none, look_seen}

five_none : {A : Type 0} (a b c d e : Bool) (p q r s t : A) → a ≡ false → b ≡ false → c ≡ false → d ≡ false → e ≡ false
    → first_that_holds ((a, p) ∷ (b, q) ∷ (c, r) ∷ (d, s) ∷ (e, t) ∷ []) ≡ None
five_none a b c d e p q r s t ea eb ec ed ee = rw (ea, eb, ec, ed, ee) refl

not_refused : (task : Task) (w : World) → IsLockableFor task w → lock_refusal w.state.broken w.state.time task.targets w.state.manager ≡ None
not_refused task w h =
    let m = w.state.manager in
    five_none (is_some m.lock) (nat_lt w.state.time m.lease_end) (any (λ (t : Target). w.state.broken t.disk) task.targets) (is_some (first_held m.homes [] task.targets)) (any (λ (t : Target). is_spent m.greatest t.index) task.targets)
    (Reply.Locked (task_of m.lock)) (Reply.LeaseRuns m.lease_end) Reply.DestBroken (Reply.DestHeld (or_zero (first_held m.homes [] task.targets))) Reply.EpochSpent
    (ap is_some h.free) (le-ltb w.state.time m.lease_end h.lease) (any_none (λ (t : Target). w.state.broken t.disk) task.targets h.unbroken) (ap is_some h.apart)
    (any_none (λ (t : Target). is_spent m.greatest t.index) task.targets h.unspent)

-- what the lock's reply says of the manager's part behind it
abbrev LockGives : ℕ → List Target → Manager → Manager → Reply → Type 0
LockGives id targets m n (Reply.Granted number transfers) = (number ≡ m.granted + 1) × (transfers ≡ transfers_of n.lock) × (n ≡ written (lock_record id targets m) m)
LockGives id targets m n Reply.Fault = Unit {0}
LockGives id targets m n reply = ⊥

locks_give : (task : Task) (w : World) (n : Manager) (reply : Reply) → lock_refusal w.state.broken w.state.time task.targets w.state.manager ≡ None
    → Locks w.state.broken w.state.time task.id task.targets w.state.manager reply n → LockGives task.id task.targets w.state.manager n reply
locks_give task w n (Reply.Granted number transfers) none h = (h.1, h.2, h.3)
locks_give task w n Reply.Fault none h = tt
locks_give task w n reply none h = some_none (lock_refusal w.state.broken w.state.time task.targets w.state.manager) reply none h.0

lock_leads : (shape : VolumeShape) (task : Task) (w u : World) (step : Step) → step.event ≡ Event.Lock task.id task.targets → IsLockableFor task w → Leads shape w step u
    → IsBy w u (λ n. LockGives task.id task.targets w.state.manager n step.reply)
lock_leads shape task w u step e ready (inl h) =
    let does = subst (λ event. Does shape w event step.reply u) e h in
    is_by w u does.0.0 (λ n. LockGives task.id task.targets w.state.manager n step.reply) (locks_give task w does.0.0.manager step.reply (not_refused task w ready) does.0.1.1.1) does.0.1.1.2 does.0.2 does.1
lock_leads shape task w u step e ready (inr h) =
    let refused = subst (λ event. IsRefusedByLog w event step.reply u) e h in absurd (contrary w.state.manager.is_shut refused.0 ready.unshut)

-- the lock is granted
pub record IsGranted (vid : ℕ) (task : Task) (w : World) (n : Manager) (reply : CodeReply) : Type 0 where
  pub lock : ℕ
  pub moves : List Move
  pub is : reply ≡ replies.Granted lock moves
  pub number : lock ≡ w.state.manager.granted + 1
  pub shown : moves ≡ moves_shown vid w.state.broken false (transfers_of n.lock)
  pub record_is : n ≡ written (lock_record task.id task.targets w.state.manager) w.state.manager

told_grant : (vid : ℕ) (task : Task) (w : World) (n : Manager) (reply : CodeReply) (told : Reply) → IsUntroubled reply → LockGives task.id task.targets w.state.manager n told → Tells vid w.state (reply_kept reply) told
    → IsGranted vid task w n reply
told_grant vid task w n (replies.Granted lock moves) (Reply.Granted number transfers) calm gives tells = record {
  lock = lock;
  moves = moves;
  is = refl;
  number = sym tells.0 ∙ gives.0;
  shown = tells.1 ∙ ap (moves_shown vid w.state.broken false) gives.1;
  record_is = gives.2;
}
told_grant vid task w n replies.Fault told calm gives tells = absurd calm
told_grant vid task w n reply (Reply.Granted number transfers) calm gives tells = absurd tells
told_grant vid task w n reply Reply.Fault calm gives tells = absurd tells
told_grant vid task w n reply told calm gives tells = absurd gives

-- a lock that is asked for in a calm stretch is granted
pub record LocksNow (origin : Origin) (task : Task) (w u : World) (reply : CodeReply) : Type 0 where
  pub by : IsBy w u (λ n. IsGranted origin.vid task w n reply)
  pub leads : (Kept (shape_of origin) w.state → Kept (shape_of origin) u.state)

pub lock_now : (origin : Origin) (task : Task) (w u : World) (reply : CodeReply) → IsLockableFor task w → IsDone origin w (events.Lock task.id task.targets) reply u → IsUntroubled reply → LocksNow origin task w u reply
lock_now origin task w u reply ready done calm =
    let by = lock_leads (shape_of origin) task w u done.step done.told.event ready done.leads in
    record {
      by = record { gives = told_grant origin.vid task w u.state.manager reply done.step.reply calm by.gives done.told.reply; units = by.units; puts = by.puts; broken = by.broken; planned = by.planned };
      leads = λ kept. entry_keeps (shape_of origin) w done.step u (sound_shapes origin.mode origin.disks) kept done.leads;
    }

-- the first stage behind the look
pub looked : (mode : Mode) (task : Task) (view : View) → view.held ≡ None → lacks_disk task.targets ≡ false → after_look mode task (replies.Seen view) ≡ Next.Go (TaskStage.Locking view.units)
looked mode task view held disks = ap (after_view mode task view) held ∙ ap (λ b. cond b (waits why.NoDisk) (Next.Go (TaskStage.Locking view.units))) disks

-- behind the look the lock is asked for, and granted
grants : (origin : Origin) (task : Task) (view : View) (parts : List Part) (result : Result Stage TaskFault) (w v : World) → IsLockableFor task w → PartsLead origin w parts v → IsCalm parts
    → IsRest (task_call origin.mode task) (Next.Go (TaskStage.Locking view.units)) parts result → IsGrantedLock task (record { event = events.Look; reply = replies.Seen view } ∷ asked_in parts)
grants origin task view [] result w v ready leads calm rest = absurd rest
grants origin task view (Part.Beside trace ∷ parts) result w v ready leads calm rest = absurd calm
grants origin task view (Part.Settling trace ∷ parts) result w v ready leads calm rest = absurd calm
grants origin task view (Part.Asking event reply ∷ parts) result w v ready leads calm rest =
    let done = subst (λ x. IsDone origin w x reply leads.0) rest.0 leads.1 in
    let told = (lock_now origin task w leads.0 reply ready done calm.0).by.gives in
    let look : Asked = record { event = events.Look; reply = replies.Seen view } in
    record {
      view = view;
      lock = told.lock;
      moves = told.moves;
      rest = asked_in parts;
      split = ap (λ x. look ∷ record { event = x; reply = reply } ∷ asked_in parts) rest.0 ∙ ap (λ x. look ∷ record { event = events.Lock task.id task.targets; reply = x } ∷ asked_in parts) told.is;
    }

sees : (origin : Origin) (task : Task) (event : CodeEvent) (reply : CodeReply) (parts : List Part) (result : Result Stage TaskFault) (w u v : World) → IsLockableFor task w → event ≡ events.Look → IsDone origin w events.Look reply u
    → PartsLead origin u parts v → IsCalm parts → IsRest (task_call origin.mode task) (after_look origin.mode task reply) parts result → IsGrantedLock task (record { event = event; reply = reply } ∷ asked_in parts)
sees origin task event reply parts result w u v ready e done leads calm rest =
    let seen = look_seen origin w u reply ready.unshut done in
    let held = ap (λ (x : View). x.held) seen.shown ∙ ap (lock_shown origin.vid w.state.broken) ready.free in
    let next = looked origin.mode task seen.view held ready.disks in
    let granted = grants origin task seen.view parts result w v ready (subst (λ x. PartsLead origin x parts v) seen.same leads) calm
    (subst (λ x. IsRest (task_call origin.mode task) x parts result) next (subst (λ r. IsRest (task_call origin.mode task) (after_look origin.mode task r) parts result) seen.is rest)) in
    subst (λ x. IsGrantedLock task (record { event = x; reply = reply } ∷ asked_in parts)) (sym e)
    (subst (λ x. IsGrantedLock task (record { event = events.Look; reply = x } ∷ asked_in parts)) (sym seen.is) granted)

whole_locks : (origin : Origin) (task : Task) (parts : List Part) (result : Result Stage TaskFault) (w v : World) → IsLockableFor task w → PartsLead origin w parts v → IsCalm parts
    → IsRest (task_call origin.mode task) (Next.Go TaskStage.Looking) parts result → IsGrantedLock task (asked_in parts)
whole_locks origin task [] result w v ready leads calm rest = absurd rest
whole_locks origin task (Part.Beside trace ∷ parts) result w v ready leads calm rest = absurd calm
whole_locks origin task (Part.Settling trace ∷ parts) result w v ready leads calm rest = absurd calm
whole_locks origin task (Part.Asking event reply ∷ parts) result w v ready leads calm rest =
    sees origin task event reply parts result w leads.0 v ready rest.0 (subst (λ x. IsDone origin w x reply leads.0) rest.0 leads.1) leads.2 calm.1 rest.1

pub tasks_get_the_lock : TasksGetTheLock
tasks_get_the_lock origin task parts (Err faults.HistoryFull) w v ready call leads calm = inr tt
tasks_get_the_lock origin task parts (Err faults.Memory) w v ready call leads calm = inr tt
tasks_get_the_lock origin task parts (Err other) w v ready call leads calm = inl (whole_locks origin task parts (Err other) w v ready leads calm call)
tasks_get_the_lock origin task parts (Ok stage) w v ready call leads calm = inl (whole_locks origin task parts (Ok stage) w v ready leads calm call)
