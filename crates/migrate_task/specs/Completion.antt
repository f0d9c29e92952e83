-- When one call takes a task to its end.
use Rattle.std.specs.Prelude.{ℕ, ◌≡◌, ◌+◌, ◌<◌, ◌≤◌, ◌⊎◌, true, false, List, [], ◌∷◌, length, Some, None, Result, Ok}
use Rattle.unit_id.specs.Lists.{IsIn, count_below}
use Rattle.unit_id.specs.Place.{at_home}
use Rattle.unit_id.specs.declared.homes.Home.{Home}
use Rattle.unit_id.specs.declared.moves.Move.{Move}
use Rattle.unit_id.specs.declared.targets.Target.{Target}
use Rattle.unit_id.specs.declared.task.Task.{Task}
use Rattle.unit_id.specs.declared.answer.Answer.TheVariants as answers
use Rattle.code_mode.specs.VolumeShape.{VolumeShape}
use Rattle.code_mode.specs.declared.stripe.TheConstants.{BLOB_LIMIT}
use Rattle.volume_entry.specs.Manager.{Transfer, Lock, home_at, current}
use Rattle.volume_entry.specs.ManagerStep.{first_held, is_spent, retarget_holder}
use Rattle.volume_entry.specs.declared.view.View.{View}
use Rattle.volume_world.specs.BlobStatus.{is_begun}
use Rattle.volume_world.specs.Run.{World}
use Rattle.volume_world.specs.Way.{Origin, shape_of}
use Rattle.volume_world.specs.Possible.{IsPossible}
use Rattle.volume_world.specs.Course.{Part, PartsLead}
use Rattle.volume_world.specs.declared.event.Event.TheVariants as events
use Rattle.volume_world.specs.declared.reply.Reply.{Reply}
use Rattle.volume_world.specs.declared.reply.Reply.TheVariants as replies
use Rattle.migrate_task.specs.declared.stage.Stage.{Stage}
use Rattle.migrate_task.specs.declared.stage.Stage.TheVariants as stages
use Rattle.migrate_task.specs.declared.stage.TaskFault.{TaskFault}
use Rattle.migrate_task.specs.AdvanceCall.{target_disk, AdvancesBy}
use Rattle.migrate_task.specs.TaskParts.{lacks_disk}
use Rattle.migrate_task.specs.Endings.{Asked, asked_in, WasAsked, BreaksOff}

-- no file failed, and no chunk was full
abbrev pub IsUntroubled : Reply → Type 0
IsUntroubled replies.Fault = ⊥
IsUntroubled (replies.Heard answers.Fault) = ⊥
IsUntroubled (replies.Heard (answers.Full end)) = ⊥
IsUntroubled reply = Unit {0}

-- nobody else steps, no log has to be started, and no file fails
abbrev pub IsCalm : List Part → Type 0
IsCalm [] = Unit {0}
IsCalm (Part.Asking event reply ∷ parts) = IsUntroubled reply × IsCalm parts
IsCalm (part ∷ parts) = ⊥

-- The lock is the task's and its units are swapped; the manager's log is open, no message is to be lost or late, and each old unit on an unbroken disk is there.
pub record IsSwappedFor (task : Task) (w : World) : Type 0 where
  pub lock : Lock
  pub held : w.state.manager.lock ≡ Some lock
  pub own : lock.task ≡ task.id
  pub swapped : lock.is_swapped ≡ true
  pub unshut : w.state.manager.is_shut ≡ false
  pub unplanned : w.planned ≡ []
  pub olds : (t : Transfer) → IsIn t lock.transfers → w.state.broken t.old.disk ≡ false → w.state.units.is_made (at_home t.index t.old) ≡ true

-- in a calm stretch one call takes a task to its end whose units are swapped, unless it breaks off
abbrev pub SwappedTasksGetDone : Type 0
SwappedTasksGetDone =
    (origin : Origin) (task : Task) (parts : List Part) (result : Result Stage TaskFault) (w v : World) → IsPossible origin w → IsSwappedFor task w → AdvancesBy origin.mode task parts result
    → PartsLead origin w parts v → IsCalm parts → ((units : List Home) × (result ≡ Ok (stages.Done units))) ⊎ BreaksOff result

-- ---- the lock

-- No task has the lock, and the lease is over. Each target has a disk that isn't broken, on which no unit stands nor is to stand, and an index with
-- epochs left; the manager's log is open.
pub record IsLockableFor (task : Task) (w : World) : Type 0 where
  pub free : w.state.manager.lock ≡ None
  pub unshut : w.state.manager.is_shut ≡ false
  pub lease : w.state.manager.lease_end ≤ w.state.time
  pub disks : lacks_disk task.targets ≡ false
  pub unbroken : (t : Target) → IsIn t task.targets → w.state.broken t.disk ≡ false
  pub apart : first_held w.state.manager.homes [] task.targets ≡ None
  pub unspent : (t : Target) → IsIn t task.targets → is_spent w.state.manager.greatest t.index ≡ false

-- a call looks, and is granted its lock
pub record IsGrantedLock (task : Task) (asked : List Asked) : Type 0 where
  pub view : View
  pub lock : ℕ
  pub moves : List Move
  pub rest : List Asked
  pub split : asked ≡ record { event = events.Look; reply = replies.Seen view } ∷ record { event = events.Lock task.id task.targets; reply = replies.Granted lock moves } ∷ rest

-- in a calm stretch a call of such a task has its lock by two events, unless it breaks off
abbrev pub TasksGetTheLock : Type 0
TasksGetTheLock =
    (origin : Origin) (task : Task) (parts : List Part) (result : Result Stage TaskFault) (w v : World) → IsLockableFor task w → AdvancesBy origin.mode task parts result
    → PartsLead origin w parts v → IsCalm parts → IsGrantedLock task (asked_in parts) ⊎ BreaksOff result

-- ---- from the lock to the end

-- The manager's log is open, and no message is to be lost or late. No more current units are on broken disks than a lock can move, and each of the
-- others is there. Each payload that a put carries has the size of a blob.
pub record IsSound (shape : VolumeShape) (w : World) : Type 0 where
  pub unshut : w.state.manager.is_shut ≡ false
  pub unplanned : w.planned ≡ []
  pub few_broken : shape.data_count + count_below shape.total (λ i. w.state.broken (home_at w.state.manager.homes i).disk) ≤ shape.quorum
  pub made : (i : ℕ) → i < shape.total → w.state.broken (home_at w.state.manager.homes i).disk ≡ false → w.state.units.is_made (current w.state.manager.homes i) ≡ true
  pub sizes : (bid : ℕ) → is_begun (w.state.puts.status bid) ≡ true → (1 ≤ length (w.state.puts.payload bid)) × (length (w.state.puts.payload bid) ≤ BLOB_LIMIT)

-- The target of this index has a disk that isn't broken, on which no other unit stands nor is to stand, and the index has epochs left: its destination can move
-- there.
pub record HasOtherDisk (task : Task) (w : World) (index : ℕ) : Type 0 where
  pub some : target_disk task.targets index ≡ 0 → ⊥
  pub unbroken : w.state.broken (target_disk task.targets index) ≡ false
  pub apart : retarget_holder w.state.manager index (target_disk task.targets index) ≡ None
  pub unspent : is_spent w.state.manager.greatest index ≡ false

-- The lock is the task's, and its units aren't swapped yet. Each destination on a broken disk can move to another disk, each to one of its own.
pub record IsLockedFor (task : Task) (w : World) : Type 0 where
  pub lock : Lock
  pub held : w.state.manager.lock ≡ Some lock
  pub own : lock.task ≡ task.id
  pub unswapped : lock.is_swapped ≡ false
  pub others : (t : Transfer) → IsIn t lock.transfers → w.state.broken t.dest.disk ≡ true → HasOtherDisk task w t.index
  pub apart : (t u : Transfer) → IsIn t lock.transfers → IsIn u lock.transfers → w.state.broken t.dest.disk ≡ true → w.state.broken u.dest.disk ≡ true
      → target_disk task.targets t.index ≡ target_disk task.targets u.index → t.index ≡ u.index

-- in a calm stretch one call swaps the units of such a task, unless it breaks off
abbrev pub LockedTasksGetSwapped : Type 0
LockedTasksGetSwapped =
    (origin : Origin) (task : Task) (parts : List Part) (result : Result Stage TaskFault) (w v : World) → IsPossible origin w → IsSound (shape_of origin) w → IsLockedFor task w → AdvancesBy origin.mode task parts result
    → PartsLead origin w parts v → IsCalm parts → WasAsked (asked_in parts) (events.Swap task.id) replies.Done ⊎ BreaksOff result

-- the task can go on: it can have the lock, or has it
abbrev pub CanGoOn : VolumeShape → Task → World → Type 0
CanGoOn shape task w = (IsSound shape w × (IsLockableFor task w ⊎ IsLockedFor task w)) ⊎ IsSwappedFor task w

-- in a calm stretch one call takes such a task to its end, unless it breaks off
abbrev pub TasksGetDone : Type 0
TasksGetDone =
    (origin : Origin) (task : Task) (parts : List Part) (result : Result Stage TaskFault) (w v : World) → IsPossible origin w → CanGoOn (shape_of origin) task w → AdvancesBy origin.mode task parts result
    → PartsLead origin w parts v → IsCalm parts → ((units : List Home) × (result ≡ Ok (stages.Done units))) ⊎ BreaksOff result
