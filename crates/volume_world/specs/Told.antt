-- What an entry of a history tells of a volume: which step of the protocol it may be, and which runs its entries may be.
use Rattle.std.specs.Prelude.{ℕ, ◌≡◌, Bool, false, List, [], ◌∷◌, Option, Some, None, length}
use Rattle.unit_id.specs.Shown.{Shown}
use Rattle.unit_id.specs.Place.{Location}
use Rattle.unit_id.specs.Request.{Request, Answer}
use Rattle.unit_id.specs.Messages.{place_at}
use Rattle.code_mode.specs.Payload.{payload_bytes}
use Rattle.code_mode.specs.VolumeShape.{VolumeShape}
use Rattle.volume_entry.specs.Reply.{Reply}
use Rattle.volume_entry.specs.View.{homes_shown, moves_shown}
use Rattle.volume_entry.specs.ShownView.{view_shown}
use Rattle.volume_world.specs.Event.{Event}
use Rattle.volume_world.specs.State.{State}
use Rattle.volume_world.specs.Run.{World, Step, Leads}
use Rattle.volume_world.specs.declared.trace.TraceRequest.{TraceRequest}
use Rattle.volume_world.specs.declared.trace.TraceRequest.TheVariants as kept_request
use Rattle.volume_world.specs.declared.trace.TraceAnswer.{TraceAnswer}
use Rattle.volume_world.specs.declared.trace.TraceAnswer.TheVariants as kept_answer
use Rattle.volume_world.specs.declared.trace.TraceEvent.{TraceEvent}
use Rattle.volume_world.specs.declared.trace.TraceEvent.TheVariants as kept_event
use Rattle.volume_world.specs.declared.trace.TraceReply.{TraceReply}
use Rattle.volume_world.specs.declared.trace.TraceReply.TheVariants as kept_reply
use Rattle.volume_world.specs.declared.trace.Trace.{Trace}

abbrev pub request_told : TraceRequest → Request
request_told (kept_request.Create unit disk) = Request.Create (place_at unit disk)
request_told (kept_request.Fence unit disk lock) = Request.Fence (place_at unit disk) lock
request_told (kept_request.Put unit disk bid blob_size) = Request.Put (place_at unit disk) bid
request_told (kept_request.Read unit disk bid) = Request.Read (place_at unit disk) bid
request_told (kept_request.List unit disk lock) = Request.List (place_at unit disk) lock
request_told (kept_request.Copy unit disk bid blob_size) = Request.Copy (place_at unit disk) bid
request_told (kept_request.Mark unit disk bid) = Request.Mark (place_at unit disk) bid
request_told (kept_request.Free unit disk bid) = Request.Free (place_at unit disk) bid
request_told (kept_request.Release unit disk) = Request.Release (place_at unit disk)

abbrev pub event_told : TraceEvent → Event
event_told (kept_event.Tick by) = Event.Tick by
event_told (kept_event.Plan disk fate count) = Event.Plan disk fate count
event_told kept_event.Lease = Event.Lease
event_told (kept_event.Begin bid payload) = Event.Begin bid (payload_bytes payload)
event_told (kept_event.Send request) = Event.Send (request_told request)
event_told kept_event.FlushOne = Event.FlushOne
event_told (kept_event.End bid) = Event.End bid
event_told (kept_event.Lock task targets) = Event.Lock task targets
event_told (kept_event.Retarget task index disk) = Event.Retarget task index disk
event_told (kept_event.Swap task) = Event.Swap task
event_told (kept_event.Unlock task) = Event.Unlock task
event_told (kept_event.Break disk) = Event.Break disk
event_told (kept_event.Ask bid) = Event.Ask bid
event_told (kept_event.Commit bid) = Event.Commit bid
event_told (kept_event.Restart disk) = Event.Restart disk
event_told kept_event.RestartManager = Event.RestartManager
event_told kept_event.Look = Event.Look
event_told (kept_event.Settle disk kept) = Event.Settle disk kept

-- a listing's blobs aren't kept, so they may be any
abbrev pub TellsAnswer : TraceAnswer → Answer → Type 0
TellsAnswer kept_answer.Done Answer.Done = Unit {0}
TellsAnswer kept_answer.Already Answer.Already = Unit {0}
TellsAnswer (kept_answer.Live blob_size) Answer.Live = Unit {0}
TellsAnswer kept_answer.Marked Answer.Marked = Unit {0}
TellsAnswer kept_answer.Gone Answer.Gone = Unit {0}
TellsAnswer kept_answer.Absent Answer.Absent = Unit {0}
TellsAnswer (kept_answer.Listing lock) (Answer.Listing number shown) = number ≡ lock
TellsAnswer (kept_answer.Stale have) (Answer.Stale greatest) = greatest ≡ have
TellsAnswer kept_answer.NoUnit Answer.NoUnit = Unit {0}
TellsAnswer (kept_answer.Fenced lock) (Answer.Fenced number) = number ≡ lock
TellsAnswer kept_answer.Deleted Answer.Deleted = Unit {0}
TellsAnswer kept_answer.NotMarked Answer.NotMarked = Unit {0}
TellsAnswer kept_answer.Broken Answer.Broken = Unit {0}
TellsAnswer (kept_answer.Full end) (Answer.Full place) = place ≡ end
TellsAnswer kept_answer.Fault Answer.Fault = Unit {0}
TellsAnswer (kept_answer.Damaged kept computed) (Answer.Damaged k c) = (k ≡ kept) × (c ≡ computed)
TellsAnswer (kept_answer.Spoiled place) (Answer.Spoiled at) = at ≡ place
TellsAnswer answer _ = ⊥

-- what a reply tells in this state of the volume of this number
abbrev pub Tells : ℕ → State → TraceReply → Reply → Type 0
Tells vid s kept_reply.Done Reply.Done = Unit {0}
Tells vid s kept_reply.Already Reply.Already = Unit {0}
Tells vid s (kept_reply.Now time) (Reply.Now t) = t ≡ time
Tells vid s (kept_reply.LeaseTo end) (Reply.LeaseTo t) = t ≡ end
Tells vid s (kept_reply.Begun end units) (Reply.Begun t homes flags) = (t ≡ end) × (units ≡ homes_shown vid 0 s.broken homes)
Tells vid s kept_reply.BeginTwice Reply.BeginTwice = Unit {0}
Tells vid s (kept_reply.Heard answer) (Reply.Heard a) = TellsAnswer answer a
Tells vid s kept_reply.Unheard Reply.Unheard = Unit {0}
Tells vid s kept_reply.Barred Reply.Barred = Unit {0}
Tells vid s (kept_reply.Flushed request) (Reply.Flushed r) = r ≡ request
Tells vid s kept_reply.NothingLate Reply.NothingLate = Unit {0}
Tells vid s (kept_reply.Acked accepted) (Reply.Acked n) = n ≡ accepted
Tells vid s kept_reply.NotOpen Reply.NotOpen = Unit {0}
Tells vid s (kept_reply.LeaseOver end time) (Reply.LeaseOver e t) = (e ≡ end) × (t ≡ time)
Tells vid s (kept_reply.Quorum accepted) (Reply.Quorum n) = n ≡ accepted
Tells vid s (kept_reply.Granted lock moves) (Reply.Granted number transfers) = (number ≡ lock) × (moves ≡ moves_shown vid s.broken false transfers)
Tells vid s (kept_reply.Locked task) (Reply.Locked t) = t ≡ task
Tells vid s (kept_reply.LeaseRuns end) (Reply.LeaseRuns t) = t ≡ end
Tells vid s kept_reply.DestBroken Reply.DestBroken = Unit {0}
Tells vid s (kept_reply.DestHeld index) (Reply.DestHeld i) = i ≡ index
Tells vid s kept_reply.EpochSpent Reply.EpochSpent = Unit {0}
Tells vid s kept_reply.NotLocked Reply.NotLocked = Unit {0}
Tells vid s (kept_reply.OtherTask task) (Reply.OtherTask t) = t ≡ task
Tells vid s kept_reply.AlreadySwapped Reply.AlreadySwapped = Unit {0}
Tells vid s kept_reply.NotMoved Reply.NotMoved = Unit {0}
Tells vid s kept_reply.DestGood Reply.DestGood = Unit {0}
Tells vid s kept_reply.NotFenced Reply.NotFenced = Unit {0}
Tells vid s (kept_reply.NotListed have) (Reply.NotListed n) = n ≡ have
Tells vid s (kept_reply.NotCopied bid) (Reply.NotCopied b) = b ≡ bid
Tells vid s kept_reply.NotSwapped Reply.NotSwapped = Unit {0}
Tells vid s kept_reply.NotReleased Reply.NotReleased = Unit {0}
Tells vid s kept_reply.NotBegun Reply.NotBegun = Unit {0}
Tells vid s kept_reply.NotAsked Reply.NotAsked = Unit {0}
Tells vid s (kept_reply.TooFewMarks have) (Reply.TooFewMarks n) = n ≡ have
Tells vid s (kept_reply.Seen view) (Reply.Seen seen) = view ≡ view_shown vid s.broken s.time s.manager
Tells vid s kept_reply.Fault Reply.Fault = Unit {0}
Tells vid s (kept_reply.Damaged kept computed) (Reply.Damaged k c) = (k ≡ kept) × (c ≡ computed)
Tells vid s (kept_reply.Spoiled place) (Reply.Spoiled at) = at ≡ place
Tells vid s reply _ = ⊥

-- the entry tells of this step, taken in this state
pub record IsTold (vid : ℕ) (s : State) (trace : Trace) (step : Step) : Type 0 where
  pub event : step.event ≡ event_told trace.event
  pub reply : Tells vid s trace.reply step.reply

-- a step of which this entry tells leads from one state of the volume to the next
pub record MayBe (vid : ℕ) (shape : VolumeShape) (w : World) (trace : Trace) (v : World) : Type 0 where
  pub step : Step
  pub told : IsTold vid w.state trace step
  pub leads : Leads shape w step v

-- a legal run of which these entries tell, in order, leads from one state of the volume to the other
abbrev pub MayRun : ℕ → VolumeShape → World → List Trace → World → Type 0
MayRun vid shape w [] v = v ≡ w
MayRun vid shape w (trace ∷ traces) v = (u : World) × MayBe vid shape w trace u × MayRun vid shape u traces v
