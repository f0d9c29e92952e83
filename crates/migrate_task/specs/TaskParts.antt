-- The parts of a task's call: how each ends, and what each needs.
use Rattle.std.specs.Prelude.{ℕ, ◌≡◌, ◌≤◌, ◌<◌, ◌+◌, Bool, false, cond, ◌==◌, List, [], ◌∷◌, ◌++◌, length, filter, Option, Some, None, Result, Ok, Err, ◌^◌, true, IfSome}
use Rattle.std.specs.List.{list_any}
use Rattle.unit_id.specs.Lists.{IsIn}
use Rattle.unit_id.specs.declared.homes.Home.{Home}
use Rattle.unit_id.specs.declared.moves.Move.{Move}
use Rattle.unit_id.specs.declared.targets.Target.{Target}
use Rattle.unit_id.specs.declared.task.Task.{Task}
use Rattle.rs_code.specs.Shards.{shard_at, size_of}
use Rattle.code_mode.specs.declared.mode.Mode.{Mode}
use Rattle.code_mode.specs.VolumeShape.{VolumeShape}
use Rattle.volume_entry.specs.Manager.{IsDisk}
use Rattle.volume_entry.specs.ManagerStep.{AreTargetsInOrder}
use Rattle.volume_entry.specs.declared.view.LockView.{LockView}
use Rattle.volume_world.specs.declared.fault.StepFault.{StepFault}
use Rattle.volume_world.specs.declared.fault.StepFault.TheVariants as step_faults
use Rattle.volume_world.specs.Way.{Origin, WayView, longest_history, shape_of}
use Rattle.volume_world.specs.Asking.{IsUnitOn}
use Rattle.volume_world.specs.Replying.{AreHomes, AreMoves}
use Rattle.volume_world.specs.Call.{Next, Call}
use Rattle.volume_world.specs.Progress.{Proceeds}
use Rattle.migrate_task.specs.declared.halt.Halt.{Halt}
use Rattle.migrate_task.specs.declared.halt.Halt.TheVariants as halts
use Rattle.migrate_task.specs.declared.locking.Sight.{Sight}
use Rattle.migrate_task.specs.declared.locking.Sight.TheVariants as sights
use Rattle.migrate_task.specs.declared.starting.Start.{Start}
use Rattle.migrate_task.specs.declared.starting.Start.TheVariants as starts
use Rattle.migrate_task.specs.declared.stage.Stage.{Stage}
use Rattle.migrate_task.specs.declared.stage.Stage.TheVariants as stages
use Rattle.migrate_task.specs.declared.stage.TaskFault.{TaskFault}
use Rattle.migrate_task.specs.declared.stage.TaskFault.TheVariants as faults
use Rattle.migrate_task.specs.declared.work.Journey.{Journey}
use Rattle.migrate_task.specs.declared.work.Work as code
use Rattle.migrate_task.specs.declared.listing.Listing.{Listing}
use Rattle.migrate_task.specs.declared.copying.Errand.{Errand}
use Rattle.migrate_task.specs.declared.usable.KnownSize.{KnownSize}
use Rattle.migrate_task.specs.declared.gathering.Gathered.{Gathered}
use Rattle.migrate_task.specs.declared.old_shard.OldShard.{OldShard}
use Rattle.migrate_task.specs.declared.old_shard.OldShard.TheVariants as olds
use Rattle.migrate_task.specs.Copies.{CopyStage, CopyNext, knowing, nothing_gathered, one_unheard, others_than, reading, gathering, is_usable}
use Rattle.migrate_task.specs.Work.{Work, journeys_to, journeys_from}
use Rattle.migrate_task.specs.AdvanceCall.{TaskStage, TaskNext, creating, releasing, retargeting}

-- ---- how a part ends

abbrev pub TaskCall : Type 0
TaskCall = Call TaskStage (Result Stage TaskFault)

-- a step that isn't done breaks the call off
abbrev pub broken_off : StepFault → TaskFault
broken_off step_faults.HistoryFull = faults.HistoryFull
broken_off step_faults.Memory = faults.Memory

-- what a call answers that ends so
abbrev pub stop : Halt → Result Stage TaskFault
stop (halts.Waits reason) = Ok (stages.Waits reason)
stop halts.EpochSpent = Err faults.EpochSpent
stop halts.Fault = Err faults.Fault
stop (halts.Spoiled place) = Err (faults.Spoiled place)
stop (halts.BrokenOff fault) = Err (broken_off fault)

-- what the answer of a part makes of the call: it goes on, or is over
abbrev pub told : {T : Type 0} → Result T Halt → (T → TaskNext) → TaskNext
told (Ok given) then = then given
told (Err halt) then = Next.Over (stop halt)

-- the call is over since all is done
abbrev pub is_done : TaskNext → Bool
is_done (Next.Over (Ok (stages.Done units))) = true
is_done next = false

-- the call has come somewhere, and not to where all is done
pub record ComesBy (call : TaskCall) (old new : WayView) (from : TaskNext) : Type 0 where
  pub to : TaskNext
  pub proceeds : Proceeds call old new from to
  pub undone : is_done to ≡ false

-- the call is over since the history is full
abbrev pub is_cut : TaskNext → Bool
is_cut (Next.Over (Err faults.HistoryFull)) = true
is_cut next = false

-- the call has come somewhere, and not to where all is done; unless it was over since the history is full, the history takes no more entries there
pub record IsCutOff (call : TaskCall) (old new : WayView) (from : TaskNext) : Type 0 where
  pub to : TaskNext
  pub proceeds : Proceeds call old new from to
  pub undone : is_done to ≡ false
  pub full : is_cut to ≡ false → longest_history ≤ length new.entries

-- a part of a call, from this point on: it goes on as its answer says, or breaks off
abbrev pub GoesOn : {T : Type 0} → TaskCall → WayView → WayView → TaskNext → Result T Halt → (T → TaskNext) → Type 0
GoesOn call old new from (Err (halts.BrokenOff step_faults.HistoryFull)) then = IsCutOff call old new from
GoesOn call old new from (Err (halts.BrokenOff step_faults.Memory)) then = ComesBy call old new from
GoesOn call old new from result then = Proceeds call old new from (told result then)

-- where memory suffices, an answer makes this of the call
abbrev pub Makes : {T : Type 0} → Result T Halt → (T → TaskNext) → TaskNext → Type 0
Makes (Err (halts.BrokenOff step_faults.Memory)) then to = Unit {0}
Makes result then to = told result then ≡ to

-- ---- what a task may be

-- a target has no disk
abbrev pub lacks_disk : List Target → Bool
lacks_disk targets = list_any (λ (t : Target). t.disk == 0) targets

pub record IsTaskTarget (shape : VolumeShape) (target : Target) : Type 0 where
  pub index : target.index < shape.total
  pub disk : (target.disk ≡ 0 → ⊥) → IsDisk shape target.disk

-- the task is one of this volume, and its targets are those of a lock, but for those that have no disk
pub record IsTaskOf (origin : Origin) (task : Task) : Type 0 where
  pub volume : task.vid ≡ origin.vid
  pub some : 1 ≤ length task.targets
  pub most : length task.targets + (shape_of origin).data_count ≤ (shape_of origin).quorum
  pub order : AreTargetsInOrder task.targets
  pub each : (t : Target) → IsIn t task.targets → IsTaskTarget (shape_of origin) t

-- ---- what is known while a task works

abbrev pub work_of : code.Work → Work
work_of work = record { mode = work.mode; task = work.task; lock = work.lock; homes = work.homes.items; journeys = work.journeys.items }

-- both units are of the volume, and have the index of the journey
pub record IsJourney (origin : Origin) (j : Journey) : Type 0 where
  pub old : IsUnitOn origin j.old.unit j.old.disk
  pub old_index : j.old.unit.index ≡ j.index
  pub dest : IsUnitOn origin j.dest.unit j.dest.disk
  pub dest_index : j.dest.unit.index ≡ j.index

abbrev pub AreJourneys : Origin → List Journey → Type 0
AreJourneys origin [] = Unit {0}
AreJourneys origin (j ∷ js) = IsJourney origin j × AreJourneys origin js

abbrev pub AreUnits : Origin → List Home → Type 0
AreUnits origin [] = Unit {0}
AreUnits origin (home ∷ homes) = IsUnitOn origin home.unit home.disk × AreUnits origin homes

-- what is known is of the volume
pub record IsWorkOn (origin : Origin) (work : Work) : Type 0 where
  pub mode : work.mode ≡ origin.mode
  pub homes : AreHomes origin work.homes
  pub journeys : AreJourneys origin work.journeys
  pub most : length work.journeys ≤ 9

-- ---- the look

-- what is next where the task has the lock
abbrev pub own_lock : Mode → Task → List Home → LockView → TaskNext
own_lock mode task homes lock =
    cond lock.swapped
    (Next.Go (releasing (record { mode = mode; task = task.id; lock = lock.lock; homes = homes; journeys = journeys_from homes lock.moves }) (journeys_from homes lock.moves)))
    (retargeting task.targets (record { mode = mode; task = task.id; lock = lock.lock; homes = homes; journeys = journeys_to homes lock.moves })
    (filter (λ (move : Move). move.dest_broken) lock.moves))

abbrev pub sighted : Mode → Task → Sight → TaskNext
sighted mode task (sights.Free homes) = Next.Go (TaskStage.Locking homes)
sighted mode task (sights.Own homes lock) = own_lock mode task homes lock

-- by the moves of its lock, not swapped, a task works so
abbrev pub work_to : Mode → Task → List Home → ℕ → List Move → Work
work_to mode task homes lock moves = record { mode = mode; task = task.id; lock = lock; homes = homes; journeys = journeys_to homes moves }

-- what is next once a lock was granted
abbrev pub granted : Mode → Task → List Home → ℕ → List Move → TaskNext
granted mode task homes lock moves = creating (work_to mode task homes lock moves) (journeys_to homes moves)

-- what is next once another disk was granted
abbrev pub granted_again : Task → Work → List Move → List Move → TaskNext
granted_again task work left moves = retargeting task.targets (record work { journeys = journeys_to work.homes moves }) left

-- what a look showed is of the volume, and a task that has no lock has a disk for each target
abbrev pub IsSightOf : Origin → List Target → Sight → Type 0
IsSightOf origin targets (sights.Free homes) = AreHomes origin homes × (lacks_disk targets ≡ false)
IsSightOf origin targets (sights.Own homes lock) = AreHomes origin homes × AreMoves origin lock.moves

-- ---- listings

-- one listing more, if it was heard
abbrev pub with_heard : List Listing → Option Listing → List Listing
with_heard heard None = heard
with_heard heard (Some listing) = heard ++ listing ∷ []

-- ---- how far a call has come before its listings

-- what is next before the destinations are made, or, once swapped, before the old units are released
abbrev pub starting : Start → TaskNext
starting (starts.Locked work) = creating (work_of work) (work_of work).journeys
starting (starts.Swapped work) = Next.Go (releasing (work_of work) (work_of work).journeys)

abbrev pub start_work : Start → Work
start_work (starts.Locked work) = work_of work
start_work (starts.Swapped work) = work_of work

-- ---- the whole call

-- what a call answers that ends so, or has put these units in
abbrev pub ended : Result (List Home) Halt → Result Stage TaskFault
ended (Ok units) = Ok (stages.Done units)
ended (Err halt) = stop halt

-- ---- the old unit's shard

-- what its answer makes of a copy: the shard is taken as it is, or other units are read
abbrev pub old_heard : Work → Option KnownSize → Errand → List Errand → OldShard → CopyNext
old_heard work known e left (olds.Usable row) = CopyNext.Asks (CopyStage.Writing (knowing e.bid row.size) e left row.size row.bytes)
old_heard work known e left olds.Useless = reading known e left (nothing_gathered work.mode) (others_than e.journey.index work.homes)
old_heard work known e left olds.Unheard = reading known e left (one_unheard (nothing_gathered work.mode)) (others_than e.journey.index work.homes)

-- ---- other units' shards

-- what an answer of one makes of a copy: with one shard more, of a blob of this size, or with none
abbrev pub other_heard : Work → Option KnownSize → Errand → List Errand → Gathered → List Home → Option ℕ → CopyNext
other_heard work known e left gathered homes None = reading known e left gathered homes
other_heard work known e left gathered homes (Some size) = gathering work e left gathered homes size

-- a shard of this index can be added to what was gathered: it isn't there yet, and a row that can be used has the length of the others
pub record CanGather (mode : Mode) (known : Option KnownSize) (bid index : ℕ) (gathered : Gathered) : Type 0 where
  pub within : index < length gathered.shards
  pub free : shard_at gathered.shards index ≡ None
  pub even : (size : ℕ) (bytes : List ℕ) → is_usable mode known bid size bytes ≡ true → IfSome (size_of gathered.shards) (λ held. held ≡ length bytes)
  pub few_live : gathered.live + 1 < 2 ^ 32
  pub few_unheard : gathered.unheard + 1 < 2 ^ 32
