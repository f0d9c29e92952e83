-- The parts of a put: what each has been asked, and what it needs.
use Rattle.std.specs.Prelude.{ℕ, ◌≡◌, ◌<◌, ◌≤◌, List, length, All, Option, Result, Ok, Err}
use Rattle.unit_id.specs.Lists.{IsIn}
use Rattle.unit_id.specs.declared.homes.Home.{Home}
use Rattle.code_mode.specs.declared.payload.Payload.{Payload}
use Rattle.code_mode.specs.declared.stripe.TheConstants.{BLOB_LIMIT}
use Rattle.code_mode.specs.Payload.{payload_bytes}
use Rattle.code_mode.specs.Stripe.{all_shards}
use Rattle.volume_entry.specs.Manager.{IsBid}
use Rattle.volume_world.specs.declared.event.Event.TheVariants as events
use Rattle.volume_world.specs.declared.reply.Reply.TheVariants as replies
use Rattle.volume_world.specs.declared.fault.StepFault.{StepFault}
use Rattle.volume_world.specs.declared.fault.StepFault.TheVariants as step_faults
use Rattle.volume_world.specs.Trace.{trace_of}
use Rattle.volume_world.specs.Way.{WayView, longest_history}
use Rattle.volume_world.specs.Call.{Next, Call}
use Rattle.volume_world.specs.Progress.{Proceeds}
use Rattle.blob_access.specs.declared.putting.Acked.{Acked}
use Rattle.blob_access.specs.declared.fault.PutFault.{PutFault}
use Rattle.blob_access.specs.declared.fault.PutFault.TheVariants as faults
use Rattle.blob_access.specs.PutCall.{PutStage, PutNext}

-- a step that isn't done breaks the put off
abbrev pub broken_off : StepFault → PutFault
broken_off step_faults.HistoryFull = faults.HistoryFull
broken_off step_faults.Memory = faults.Memory

-- what an answer of a part makes of the put: it goes on, or is over
abbrev pub told : {T : Type 0} → Result T PutFault → (T → PutNext) → PutNext
told (Ok given) then = then given
told (Err fault) then = Next.Over (Err fault)

-- the put has come somewhere
pub record ComesBy (call : Call PutStage (Result Acked PutFault)) (old new : WayView) (from : PutStage) : Type 0 where
  pub to : PutNext
  pub proceeds : Proceeds call old new (Next.Go from) to

-- .. and there the history takes no more entries
pub record IsCutOff (call : Call PutStage (Result Acked PutFault)) (old new : WayView) (from : PutStage) : Type 0 where
  pub to : PutNext
  pub proceeds : Proceeds call old new (Next.Go from) to
  pub full : longest_history ≤ length new.entries

-- a part of a put, from this stage on: it goes on as its answer says, or breaks off
abbrev pub PutsOn : {T : Type 0} → Call PutStage (Result Acked PutFault) → WayView → WayView → PutStage → Result T PutFault → (T → PutNext) → Type 0
PutsOn call old new from (Err faults.HistoryFull) then = IsCutOff call old new from
PutsOn call old new from (Err faults.Memory) then = ComesBy call old new from
PutsOn call old new from result then = Proceeds call old new (Next.Go from) (told result then)

-- the blob can be put under this number
pub record IsPuttable (bid : ℕ) (blob : List ℕ) : Type 0 where
  pub number : IsBid bid
  pub some : 1 ≤ length blob
  pub most : length blob ≤ BLOB_LIMIT
  pub bytes : All (λ b. b < 256) blob

-- an entry says that a put of these bytes was begun
pub record WasBegun (way : WayView) (bid : ℕ) (blob : List ℕ) : Type 0 where
  pub payload : Payload
  pub bytes : payload_bytes payload ≡ blob
  pub end : ℕ
  pub units : List Home
  pub there : IsIn (trace_of (events.Begin bid payload) (replies.Begun end units)) way.entries

-- the shards of a blob can be sent: all of them are there, and its put was begun
pub record MaySend (way : WayView) (bid : ℕ) (blob : List ℕ) (shards : List (Option (List ℕ))) : Type 0 where
  pub puttable : IsPuttable bid blob
  pub all : shards ≡ all_shards way.origin.mode blob
  pub begun : WasBegun way bid blob
