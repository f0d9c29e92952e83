-- How calls of a task end: what is behind an answer that all is done, and after what the other answers come.
use Rattle.std.specs.Prelude.{ℕ, ◌≡◌, ◌<◌, ◌⊎◌, ◌==◌, true, false, List, [], ◌∷◌, ◌++◌, Option, Some, None, Result, Ok, Err, IfSome}
use Rattle.unit_id.specs.Lists.{IsIn}
use Rattle.unit_id.specs.UnitName.{Name}
use Rattle.unit_id.specs.declared.homes.Home.{Home}
use Rattle.unit_id.specs.declared.moves.Move.{Move}
use Rattle.unit_id.specs.declared.task.Task.{Task}
use Rattle.unit_id.specs.declared.request.Request.TheVariants as requests
use Rattle.unit_id.specs.Request.{place_of}
use Rattle.unit_id.specs.Messages.{request_of}
use Rattle.unit_id.specs.declared.answer.Answer.TheVariants as answers
use Rattle.code_mode.specs.declared.mode.Mode.{Mode}
use Rattle.code_mode.specs.Mode.{data_count, total_count, sight}
use Rattle.volume_entry.specs.declared.view.LockView.{LockView}
use Rattle.volume_entry.specs.declared.view.View.{View}
use Rattle.volume_world.specs.Way.{Origin}
use Rattle.volume_world.specs.Course.{Part}
use Rattle.volume_world.specs.Progress.{AllFit}
use Rattle.volume_world.specs.declared.event.Event.{Event}
use Rattle.volume_world.specs.declared.event.Event.TheVariants as events
use Rattle.volume_world.specs.declared.reply.Reply.{Reply}
use Rattle.volume_world.specs.declared.reply.Reply.TheVariants as replies
use Rattle.migrate_task.specs.declared.stage.Stage.{Stage}
use Rattle.migrate_task.specs.declared.stage.Stage.TheVariants as stages
use Rattle.migrate_task.specs.declared.stage.TaskFault.{TaskFault}
use Rattle.migrate_task.specs.declared.stage.TaskFault.TheVariants as faults
use Rattle.migrate_task.specs.declared.stage.Why.{Why}
use Rattle.migrate_task.specs.declared.stage.Why.TheVariants as why
use Rattle.migrate_task.specs.declared.work.Journey.{Journey}
use Rattle.migrate_task.specs.Work.{journeys_to, journeys_from}
use Rattle.migrate_task.specs.AdvanceCall.{units_in, target_disk, AdvancesBy}
use Rattle.migrate_task.specs.TaskParts.{lacks_disk}

-- ---- what a call asked

-- an event that a call asked for, and its reply
pub record Asked : Type 0 where
  pub event : Event
  pub reply : Reply

-- all of them in order, without what others did and the logs that were started for them
abbrev pub asked_in : List Part → List Asked
asked_in [] = []
asked_in (Part.Beside trace ∷ parts) = asked_in parts
asked_in (Part.Settling trace ∷ parts) = asked_in parts
asked_in (Part.Asking event reply ∷ parts) = record { event = event; reply = reply } ∷ asked_in parts

abbrev pub WasAsked : List Asked → Event → Reply → Type 0
WasAsked asked event reply = IsIn (record { event = event; reply = reply }) asked

-- the last of them
pub record EndsWith (asked : List Asked) (event : Event) (reply : Reply) : Type 0 where
  pub before : List Asked
  pub split : asked ≡ before ++ (record { event = event; reply = reply } ∷ [])

-- ---- what is behind a task that is done

-- a disk was told to be broken: by a home that a look showed, or by an old unit that was to be fenced or released
pub data IsToldBroken (asked : List Asked) (disk : ℕ) : Type 0 where
  Shown : (view : View) → (home : Home) → WasAsked asked events.Look (replies.Seen view) → IsIn home view.units → home.disk ≡ disk → home.broken ≡ true → IsToldBroken asked disk
  AtFence : (unit : Name) → (lock : ℕ) → WasAsked asked (events.Send (requests.Fence unit disk lock)) (replies.Heard answers.Broken) → IsToldBroken asked disk
  AtRelease : (unit : Name) → WasAsked asked (events.Send (requests.Release unit disk)) (replies.Heard answers.Broken) → IsToldBroken asked disk

-- nothing more is to be had from an old unit: behind the swap it was heard that it is released, or its disk was told to be broken
pub data IsGivenUp (asked behind : List Asked) (old : Home) : Type 0 where
  Released : WasAsked behind (events.Send (requests.Release old.unit old.disk)) (replies.Heard answers.Done) → IsGivenUp asked behind old
  Stale : (have : ℕ) → WasAsked behind (events.Send (requests.Release old.unit old.disk)) (replies.Heard (answers.Stale have)) → IsGivenUp asked behind old
  Broken : IsToldBroken asked old.disk → IsGivenUp asked behind old

-- what a lock moves, as it was granted last
abbrev pub granted_by : List Move → Reply → List Move
granted_by moves (replies.Granted lock given) = given
granted_by moves reply = moves

abbrev pub granted_last : List Move → List Asked → List Move
granted_last moves [] = moves
granted_last moves (a ∷ asked) = granted_last (granted_by moves a.reply) asked

abbrev pub held_moves : Option LockView → List Move
held_moves None = []
held_moves (Some lock) = lock.moves

-- The units were swapped by then: what a look showed, and what was asked up to the swap. Either the task's lock was shown to be swapped, and the
-- call went on from there; or the call's own swap was done.
pub data Swapped (task : Task) (view : View) (front : List Asked) (journeys : List Journey) : Type 0 where
  Before : (lock : LockView) → view.held ≡ Some lock → lock.task ≡ task.id → lock.swapped ≡ true → front ≡ [] → journeys ≡ journeys_from view.units lock.moves → Swapped task view front journeys
  Now : (first : List Asked) → front ≡ first ++ (record { event = events.Swap task.id; reply = replies.Done } ∷ []) → journeys ≡ journeys_to view.units (granted_last (held_moves view.held) first)
      → Swapped task view front journeys

-- A call that is done: a look, what led to the swap, and behind it, for each unit of the lock, its release or that its disk is broken; the
-- unlock is the last. The units are those that the lock put in.
pub record IsDoneBy (total : ℕ) (task : Task) (asked : List Asked) (units : List Home) : Type 0 where
  pub view : View
  pub front : List Asked
  pub behind : List Asked
  pub journeys : List Journey
  pub split : asked ≡ record { event = events.Look; reply = replies.Seen view } ∷ (front ++ behind)
  pub swapped : Swapped task view front journeys
  pub given_up : (j : Journey) → IsIn j journeys → j.index < total → IsGivenUp asked behind j.old
  pub unlocked : EndsWith behind (events.Unlock task.id) replies.Done
  pub put_in : units ≡ units_in journeys

-- a call that answers that all is done has swapped and unlocked the volume, and given up each old unit
abbrev pub DoneIsUnlocked : Type 0
DoneIsUnlocked =
    (origin : Origin) (task : Task) (parts : List Part) (units : List Home) → AllFit origin parts → AdvancesBy origin.mode task parts (Ok (stages.Done units))
    → IsDoneBy (total_count origin.mode) task (asked_in parts) units

-- ---- where the other answers come

-- a request to this disk
abbrev pub IsSentTo : ℕ → Event → Type 0
IsSentTo disk (events.Send request) = (place_of (request_of request)).disk ≡ disk
IsSentTo disk event = ⊥

-- the lock that a look showed is another task's
abbrev pub HasOther : Task → ℕ → Option LockView → Type 0
HasOther task other (Some lock) = (lock.task == task.id ≡ false) × (other ≡ lock.task)
HasOther task other None = ⊥

-- another task has the lock, or the task's own lock doesn't stand so that the step can be done
abbrev pub TellsLocked : Task → ℕ → Reply → Type 0
TellsLocked task other (replies.Seen view) = HasOther task other view.held
TellsLocked task other (replies.Locked holder) = other ≡ holder
TellsLocked task other (replies.OtherTask holder) = other ≡ holder
TellsLocked task other replies.NotLocked = other ≡ task.id
TellsLocked task other replies.AlreadySwapped = other ≡ task.id
TellsLocked task other replies.NotSwapped = other ≡ task.id
TellsLocked task other replies.NotMoved = other ≡ task.id
TellsLocked task other replies.DestGood = other ≡ task.id
TellsLocked task other reply = ⊥

-- a target has no disk: there is no lock yet, or the disk of its destination broke
abbrev pub TellsNoDisk : Task → Reply → Type 0
TellsNoDisk task (replies.Seen view) = ((view.held ≡ None) × (lacks_disk task.targets ≡ true)) ⊎ ((move : Move) × (move.dest_broken ≡ true) × (target_disk task.targets move.index ≡ 0))
TellsNoDisk task (replies.Granted lock moves) = (move : Move) × (move.dest_broken ≡ true) × (target_disk task.targets move.index ≡ 0)
TellsNoDisk task reply = ⊥

-- a destination is on a broken disk, or was to get one; the target has no other
abbrev pub TellsDestBroken : Task → Reply → Type 0
TellsDestBroken task replies.DestBroken = Unit {0}
TellsDestBroken task (replies.Heard answers.Broken) = Unit {0}
TellsDestBroken task (replies.Seen view) = (move : Move) × (move.dest_broken ≡ true) × (target_disk task.targets move.index ≡ move.disk)
TellsDestBroken task (replies.Granted lock moves) = (move : Move) × (move.dest_broken ≡ true) × (target_disk task.targets move.index ≡ move.disk)
TellsDestBroken task reply = ⊥

-- a reply that leaves the call to what it knows by then
abbrev pub LeavesOpen : Reply → Type 0
LeavesOpen (replies.Seen view) = Unit {0}
LeavesOpen (replies.Granted lock moves) = Unit {0}
LeavesOpen (replies.Heard answer) = Unit {0}
LeavesOpen replies.Unheard = Unit {0}
LeavesOpen replies.Barred = Unit {0}
LeavesOpen reply = ⊥

-- fewer units are listed than are enough to see
abbrev pub TellsShort : Mode → ℕ → Reply → Type 0
TellsShort mode listed (replies.NotListed have) = listed ≡ have
TellsShort mode listed reply = LeavesOpen reply × (listed < sight mode)

-- a destination lacks this blob, of which fewer shards were heard than there are data shards
abbrev pub TellsShortShards : Mode → ℕ → ℕ → ℕ → Reply → Type 0
TellsShortShards mode bid live unheard (replies.NotCopied other) = (bid ≡ other) × (live ≡ 0) × (unheard ≡ 0)
TellsShortShards mode bid live unheard reply = LeavesOpen reply × (live < data_count mode)

-- a unit's answer is of no use, or the manager hasn't heard that the old units are fenced or released
abbrev pub TellsSick : ℕ → Event → Reply → Type 0
TellsSick disk event (replies.Heard answer) = IsSentTo disk event
TellsSick disk event replies.Barred = IsSentTo disk event
TellsSick disk event replies.NotFenced = Unit {0}
TellsSick disk event replies.NotReleased = Unit {0}
TellsSick disk event reply = ⊥

abbrev pub TellsWhy : Mode → Task → Event → Reply → Why → Type 0
TellsWhy mode task event reply (why.Locked other) = TellsLocked task other reply
TellsWhy mode task event reply (why.Leased end) = reply ≡ replies.LeaseRuns end
TellsWhy mode task event reply why.NoDisk = TellsNoDisk task reply
TellsWhy mode task event reply why.DestBroken = TellsDestBroken task reply
TellsWhy mode task event reply (why.DestHeld index) = reply ≡ replies.DestHeld index
TellsWhy mode task event reply (why.Short listed) = TellsShort mode listed reply
TellsWhy mode task event reply (why.ShortShards bid live unheard) = TellsShortShards mode bid live unheard reply
TellsWhy mode task event reply (why.Unheard disk) = IsSentTo disk event × (reply ≡ replies.Unheard)
TellsWhy mode task event reply (why.Sick disk) = TellsSick disk event reply

-- what the last event and its reply say of the answer
abbrev pub Tells : Mode → Task → Event → Reply → Result Stage TaskFault → Type 0
Tells mode task event reply (Ok (stages.Done units)) = (event ≡ events.Unlock task.id) × (reply ≡ replies.Done)
Tells mode task event reply (Ok (stages.Waits reason)) = TellsWhy mode task event reply reason
Tells mode task event reply (Err faults.EpochSpent) = reply ≡ replies.EpochSpent
Tells mode task event reply (Err faults.Fault) = reply ≡ replies.Fault
Tells mode task event reply (Err (faults.Spoiled place)) = reply ≡ replies.Spoiled place
Tells mode task event reply (Err faults.HistoryFull) = ⊥
Tells mode task event reply (Err faults.Memory) = ⊥

-- where the history is full or memory is out, a call breaks off behind any of its events
abbrev pub BreaksOff : Result Stage TaskFault → Type 0
BreaksOff (Err faults.HistoryFull) = Unit {0}
BreaksOff (Err faults.Memory) = Unit {0}
BreaksOff result = ⊥

-- the last event of a call, whose reply tells its answer
pub record HasLast (mode : Mode) (task : Task) (asked : List Asked) (result : Result Stage TaskFault) : Type 0 where
  pub event : Event
  pub reply : Reply
  pub ends : EndsWith asked event reply
  pub tells : Tells mode task event reply result

-- each answer comes behind a last event whose reply tells it, or breaks the call off
abbrev pub LastRepliesTell : Type 0
LastRepliesTell =
    (origin : Origin) (task : Task) (parts : List Part) (result : Result Stage TaskFault) → AllFit origin parts → AdvancesBy origin.mode task parts result
    → HasLast origin.mode task (asked_in parts) result ⊎ BreaksOff result

-- ---- replies that end a call

-- what a call answers behind this reply, whatever it asked
abbrev pub final_answer : Task → Reply → Option (Result Stage TaskFault)
final_answer task replies.Fault = Some (Err faults.Fault)
final_answer task (replies.Spoiled place) = Some (Err (faults.Spoiled place))
final_answer task replies.EpochSpent = Some (Err faults.EpochSpent)
final_answer task (replies.LeaseRuns end) = Some (Ok (stages.Waits (why.Leased end)))
final_answer task (replies.DestHeld index) = Some (Ok (stages.Waits (why.DestHeld index)))
final_answer task replies.DestBroken = Some (Ok (stages.Waits why.DestBroken))
final_answer task (replies.NotListed have) = Some (Ok (stages.Waits (why.Short have)))
final_answer task (replies.NotCopied bid) = Some (Ok (stages.Waits (why.ShortShards bid 0 0)))
final_answer task (replies.Locked holder) = Some (Ok (stages.Waits (why.Locked holder)))
final_answer task (replies.OtherTask holder) = Some (Ok (stages.Waits (why.Locked holder)))
final_answer task replies.NotLocked = Some (Ok (stages.Waits (why.Locked task.id)))
final_answer task replies.AlreadySwapped = Some (Ok (stages.Waits (why.Locked task.id)))
final_answer task replies.NotSwapped = Some (Ok (stages.Waits (why.Locked task.id)))
final_answer task replies.NotMoved = Some (Ok (stages.Waits (why.Locked task.id)))
final_answer task replies.DestGood = Some (Ok (stages.Waits (why.Locked task.id)))
final_answer task reply = None

-- such a reply is the call's answer, unless the call broke off
abbrev pub RepliesEndCalls : Type 0
RepliesEndCalls =
    (origin : Origin) (task : Task) (parts : List Part) (result : Result Stage TaskFault) (event : Event) (reply : Reply) → AllFit origin parts → AdvancesBy origin.mode task parts result → WasAsked (asked_in parts) event reply
    → IfSome (final_answer task reply) (λ given. (result ≡ given) ⊎ BreaksOff result)

-- an unlock of the task that is done makes the answer that all is done, whatever happens
abbrev pub UnlockedIsDone : Type 0
UnlockedIsDone =
    (origin : Origin) (task : Task) (parts : List Part) (result : Result Stage TaskFault) → AdvancesBy origin.mode task parts result → WasAsked (asked_in parts) (events.Unlock task.id) replies.Done
    → (units : List Home) × (result ≡ Ok (stages.Done units))
