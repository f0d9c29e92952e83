-- What steps through a way do: the entries that they add, and the states through which these lead.
use Rattle.std.specs.Prelude.{ℕ, suc, ◌≡◌, ◌+◌, ◌-◌, ◌^◌, ◌<◌, ◌≤◌, min, Bool, true, false, cond, List, [], ◌∷◌, ◌++◌, map, length, All, Result, Ok, Err}
use Rattle.unit_id.specs.Lists.{IsIn}
use Rattle.unit_id.specs.Messages.{place_at, answer_of}
use Rattle.unit_id.specs.declared.request.Request.{Request}
use Rattle.unit_id.specs.declared.request.Request.TheVariants as requests
use Rattle.unit_id.specs.declared.answer.Answer.{Answer}
use Rattle.unit_id.specs.declared.answer.Answer.TheVariants as answers
use Rattle.code_mode.specs.declared.mode.Mode.{Mode}
use Rattle.volume_entry.specs.Reply.{Reply as ToldReply}
use Rattle.volume_world.specs.State.{Puts}
use Rattle.volume_world.specs.BlobStatus.{is_begun}
use Rattle.volume_world.specs.Run.{World, Step, Leads}
use Rattle.volume_world.specs.Contents.{begun_shard}
use Rattle.volume_world.specs.Trace.{trace_of}
use Rattle.volume_world.specs.Told.{IsTold, MayBe}
use Rattle.volume_world.specs.Way.{Origin, WayView, shape_of, longest_history}
use Rattle.volume_world.specs.Replying.{ShowsMoves, MayReply}
use Rattle.volume_world.specs.declared.event.Event.{Event}
use Rattle.volume_world.specs.declared.event.Event.TheVariants as events
use Rattle.volume_world.specs.declared.reply.Reply.{Reply}
use Rattle.volume_world.specs.declared.reply.Reply.TheVariants as replies
use Rattle.volume_world.specs.declared.fault.StepFault.{StepFault}
use Rattle.volume_world.specs.declared.fault.StepFault.TheVariants.{HistoryFull, Memory}
use Rattle.volume_world.specs.declared.trace.TraceAnswer.TheVariants as kept_answer
use Rattle.volume_world.specs.declared.trace.TraceEvent.{TraceEvent}
use Rattle.volume_world.specs.declared.trace.TraceEvent.TheVariants as kept_event
use Rattle.volume_world.specs.declared.trace.TraceReply.{TraceReply}
use Rattle.volume_world.specs.declared.trace.TraceReply.TheVariants as kept_reply
use Rattle.volume_world.specs.declared.trace.Trace.{Trace}

-- What a stretch of history is made of: an entry that somebody else added, a log that was shut and is started for an event of our own, and
-- such an event, with its whole reply.
pub data Part : Type 0 where
  Beside : Trace → Part
  Settling : Trace → Part
  Asking : Event → Reply → Part

abbrev pub trace_at : Part → Trace
trace_at (Part.Beside trace) = trace
trace_at (Part.Settling trace) = trace
trace_at (Part.Asking event reply) = trace_of event reply

-- the entries of a stretch
abbrev pub traces_of : List Part → List Trace
traces_of parts = map trace_at parts

abbrev pub is_own : Part → Bool
is_own (Part.Beside trace) = false
is_own (Part.Settling trace) = true
is_own (Part.Asking event reply) = true

-- the places of our own entries, in a stretch that begins at this one
abbrev pub own_places : ℕ → List Part → List ℕ
own_places place [] = []
own_places place (part ∷ parts) = cond (is_own part) (place ∷ own_places (suc place) parts) (own_places (suc place) parts)

-- the reply is a fault, or carries one
abbrev pub is_fault : TraceReply → Bool
is_fault kept_reply.Fault = true
is_fault (kept_reply.Heard kept_answer.Fault) = true
is_fault reply = false

-- how many entries are answered by a fault
abbrev pub fault_count : List Part → ℕ
fault_count [] = 0
fault_count (part ∷ parts) = cond (is_fault (trace_at part).reply) 1 0 + fault_count parts

-- ---- states

-- a shard that is read is the one that belongs to its unit, of a payload of bytes
abbrev pub GivesRight : Mode → Puts → Request → Answer → Type 0
GivesRight mode puts (requests.Read unit disk bid) (answers.Live blob_size bytes) =
    (is_begun (puts.status bid) ≡ true) × (record { blob_size = blob_size; bytes = bytes } ≡ begun_shard mode puts (place_at unit disk) bid)
    × All (λ b. b < 256) (puts.payload bid)
GivesRight mode puts request answer = Unit {0}

-- an answer is heard whole, with all that it lists and carries
abbrev pub IsWhole : Mode → Puts → Event → Reply → ToldReply → Type 0
IsWhole mode puts (events.Send request) (replies.Heard answer) (ToldReply.Heard heard) = (heard ≡ answer_of answer) × GivesRight mode puts request answer
IsWhole mode puts event reply heard = Unit {0}

-- the event with this reply leads from one state of the volume to the next
pub record IsDone (origin : Origin) (w : World) (event : Event) (reply : Reply) (v : World) : Type 0 where
  pub step : Step
  pub told : IsTold origin.vid w.state (trace_of event reply) step
  pub whole : IsWhole origin.mode w.state.puts event reply step.reply
  pub leads : Leads (shape_of origin) w step v

-- a part leads from one state of the volume to the next
abbrev pub PartLeads : Origin → World → Part → World → Type 0
PartLeads origin w (Part.Beside trace) v = MayBe origin.vid (shape_of origin) w trace v
PartLeads origin w (Part.Settling trace) v = MayBe origin.vid (shape_of origin) w trace v
PartLeads origin w (Part.Asking event reply) v = IsDone origin w event reply v

-- a stretch leads from one state of the volume to another
abbrev pub PartsLead : Origin → World → List Part → World → Type 0
PartsLead origin w [] v = v ≡ w
PartsLead origin w (part ∷ parts) v = (u : World) × PartLeads origin w part u × PartsLead origin u parts v

-- ---- stretches

-- somebody else's entries
abbrev pub AreBeside : List Part → Type 0
AreBeside [] = Unit {0}
AreBeside (Part.Beside trace ∷ parts) = AreBeside parts
AreBeside (part ∷ parts) = ⊥

-- no entry of a stretch is somebody else's
abbrev pub AreOwn : List Part → Type 0
AreOwn parts = (part : Part) → IsIn part parts → is_own part ≡ true

-- From one view of a way to the next the volume went by this stretch, whose faults are some of its files', and in each state where it may
-- have been it led to one where it may be.
pub record Goes (old new : WayView) (parts : List Part) : Type 0 where
  pub origin : new.origin ≡ old.origin
  pub is_alone : new.is_alone ≡ old.is_alone
  pub entries : new.entries ≡ old.entries ++ traces_of parts
  pub own : new.own ≡ old.own ++ own_places (length old.entries) parts
  pub alone : old.is_alone ≡ true → AreOwn parts
  pub count : old.faults ≤ new.faults
  pub faults : min (old.faults + fault_count parts) (2 ^ 64 - 1) ≤ new.faults
  pub quiet : old.origin.is_quiet ≡ true → fault_count parts ≡ 0
  pub leads : old.origin.is_told ≡ true → (w : World) → old.is_at w → (v : World) × PartsLead old.origin w parts v × new.is_at v

-- ---- one step

abbrev pub IsSettle : TraceEvent → TraceReply → Type 0
IsSettle (kept_event.Settle disk kept) kept_reply.Done = Unit {0}
IsSettle event reply = ⊥

-- logs that were shut are started
abbrev pub AreSettling : List Part → Type 0
AreSettling [] = Unit {0}
AreSettling (Part.Settling trace ∷ parts) = IsSettle trace.event trace.reply × AreSettling parts
AreSettling (part ∷ parts) = ⊥

-- what stands before an event: entries of others, and at most two settles
pub record IsReady (others settles : List Part) : Type 0 where
  pub beside : AreBeside others
  pub settling : AreSettling settles
  pub most : length settles ≤ 2

-- the event is done, once others have stepped and logs that were shut are started
pub record Happens (old new : WayView) (event : Event) (reply : Reply) : Type 0 where
  pub others : List Part
  pub settles : List Part
  pub ready : IsReady others settles
  pub room : length (old.entries ++ traces_of others) < longest_history
  pub fits : MayReply old.origin event reply
  pub moves : ShowsMoves old.origin reply
  pub goes : Goes old new (others ++ (settles ++ (Part.Asking event reply ∷ [])))

-- there is no memory for the event, and it isn't done
pub record GaveUp (old new : WayView) : Type 0 where
  pub others : List Part
  pub settles : List Part
  pub ready : IsReady others settles
  pub room : length (old.entries ++ traces_of others) < longest_history
  pub goes : Goes old new (others ++ settles)

-- the history takes no more entries, and nothing is done
pub record IsFull (old new : WayView) : Type 0 where
  pub others : List Part
  pub beside : AreBeside others
  pub full : longest_history ≤ length (old.entries ++ traces_of others)
  pub goes : Goes old new others

-- what a step through a way does, by what it answers
abbrev pub StepsBy : WayView → WayView → Event → Result Reply StepFault → Type 0
StepsBy old new event (Ok reply) = Happens old new event reply
StepsBy old new event (Err HistoryFull) = IsFull old new
StepsBy old new event (Err Memory) = GaveUp old new
