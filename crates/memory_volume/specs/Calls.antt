-- What the calls of a volume in memory do: what the crates below say of them where they are made, and nothing where they don't fit.
use Rattle.std.specs.Prelude.{ℕ, ◌≡◌, true, false, List, length, Option, Some, None, Result}
use Rattle.unit_id.specs.declared.task.Task.{Task}
use Rattle.code_mode.specs.declared.payload.Payload.{Payload}
use Rattle.code_mode.specs.Payload.{payload_bytes}
use Rattle.volume_entry.specs.Manager.{IsBid}
use Rattle.volume_world.specs.Asking.{FitsEvent}
use Rattle.volume_world.specs.Course.{StepsBy}
use Rattle.volume_world.specs.declared.event.Event.{Event}
use Rattle.volume_world.specs.declared.reply.Reply.{Reply}
use Rattle.volume_world.specs.declared.fault.StepFault.{StepFault}
use Rattle.blob_access.specs.PutCall.{Puts}
use Rattle.blob_access.specs.GetCall.{Gets}
use Rattle.blob_access.specs.declared.putting.Acked.{Acked}
use Rattle.blob_access.specs.declared.fault.PutFault.{PutFault}
use Rattle.blob_access.specs.declared.fault.GetFault.{GetFault}
use Rattle.blob_delete.specs.Sweeps.{Sweeps}
use Rattle.blob_delete.specs.declared.sweeping.Swept.{Swept}
use Rattle.blob_delete.specs.declared.fault.DeleteFault.{DeleteFault}
use Rattle.migrate_task.specs.TaskParts.{IsTaskOf}
use Rattle.migrate_task.specs.AdvanceCall.{Advances}
use Rattle.migrate_task.specs.declared.stage.Stage.{Stage}
use Rattle.migrate_task.specs.declared.stage.TaskFault.{TaskFault}
use Rattle.memory_volume.specs.Fitting.{IsBlob, carries_shard}
use Rattle.memory_volume.specs.MemoryVolume.{MemoryState, way_to}

-- the event fits the volume, and carries no shard where files may tell
pub record MayBeAsked (state : MemoryState) (event : Event) : Type 0 where
  pub fits : FitsEvent (way_to state.world).origin event
  pub shard : state.tells ≡ true → carries_shard event ≡ false

-- nothing changed, since this isn't so
abbrev pub IsLeft : MemoryState → MemoryState → Type 0 → Type 0
IsLeft old new Fits = (new ≡ old) × (Fits → ⊥)

-- an event is asked
abbrev pub Asks : MemoryState → MemoryState → Event → Option (Result Reply StepFault) → Type 0
Asks old new event None = IsLeft old new (MayBeAsked old event)
Asks old new event (Some result) = (new.tells ≡ old.tells) × StepsBy (way_to old.world) (way_to new.world) event result

-- a blob is put
abbrev pub PutsBlob : MemoryState → MemoryState → ℕ → Payload → Option (Result Acked PutFault) → Type 0
PutsBlob old new bid payload None = IsLeft old new (IsBlob bid (length (payload_bytes payload)))
PutsBlob old new bid payload (Some result) = (new.tells ≡ old.tells) × Puts (way_to old.world) (way_to new.world) bid payload result

-- a blob is got
abbrev pub GetsBlob : MemoryState → MemoryState → ℕ → ℕ → Option (Result (List ℕ) GetFault) → Type 0
GetsBlob old new bid size None = IsLeft old new (IsBlob bid size)
GetsBlob old new bid size (Some result) = (new.tells ≡ old.tells) × Gets (way_to old.world) (way_to new.world) bid size result

-- a task goes on
abbrev pub AdvancesTask : MemoryState → MemoryState → Task → Option (Result Stage TaskFault) → Type 0
AdvancesTask old new task None = IsLeft old new (IsTaskOf (way_to old.world).origin task)
AdvancesTask old new task (Some result) = (new.tells ≡ old.tells) × Advances (way_to old.world) (way_to new.world) task result

-- a blob is swept
abbrev pub SweepsBlob : MemoryState → MemoryState → ℕ → Option (Result Swept DeleteFault) → Type 0
SweepsBlob old new bid None = IsLeft old new (IsBid bid)
SweepsBlob old new bid (Some result) = (new.tells ≡ old.tells) × Sweeps (way_to old.world) (way_to new.world) bid result
