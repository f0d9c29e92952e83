-- Calls over a way from their first stage on: what they ask in a stretch of history, and what they answer.
use Rattle.std.specs.Prelude.{ℕ, ◌≡◌, ◌+◌, ◌≤◌, cond, List, [], ◌∷◌, length, Option, Some, None, is_some, Result, Ok, Err}
use Rattle.volume_world.specs.declared.event.Event.{Event}
use Rattle.volume_world.specs.declared.reply.Reply.{Reply}
use Rattle.volume_world.specs.declared.fault.StepFault.{StepFault}
use Rattle.volume_world.specs.declared.fault.StepFault.TheVariants.{HistoryFull}
use Rattle.volume_world.specs.Way.{WayView, longest_history}
use Rattle.volume_world.specs.Course.{Part, Goes}
use Rattle.volume_world.specs.Call.{Next, Call, IsRest}
use Rattle.volume_world.specs.Progress.{AllFit, Comes}

-- why a step wasn't done, where the answer says that this cut the call off
abbrev pub cut_by : {T E : Type 0} → (E → Option StepFault) → Result T E → Option StepFault
cut_by cut (Ok given) = None
cut_by cut (Err why) = cut why

-- a call comes to its answer; one that is cut off stands before some stage, and hasn't asked for its event
abbrev pub EndsBy : {S T E : Type 0} → Call S (Result T E) → S → List Part → Result T E → Option StepFault → Type 0
EndsBy {S} call first parts result None = IsRest call (Next.Go first) parts result
EndsBy {S} call first parts result (Some fault) = (stage : S) × Comes call (Next.Go first) parts (Next.Go stage)

-- A call over a way. Each reply is one that its event may have. The history is said to be full only where it is.
pub record Makes {S T E : Type 0} (call : Call S (Result T E)) (first : S) (cut : E → Option StepFault) (old new : WayView) (result : Result T E) : Type 0 where
  pub parts : List Part
  pub goes : Goes old new parts
  pub fits : AllFit old.origin parts
  pub ends : EndsBy call first parts result (cut_by cut result)
  pub full : cut_by cut result ≡ Some HistoryFull → longest_history ≤ length new.entries

-- how many events of our own there are, without the settles before them
abbrev pub asked_count : List Part → ℕ
asked_count [] = 0
asked_count (Part.Beside trace ∷ parts) = asked_count parts
asked_count (Part.Settling trace ∷ parts) = asked_count parts
asked_count (Part.Asking event reply ∷ parts) = 1 + asked_count parts

-- ---- one event

-- the answer that a reply tells; one that never comes tells none
abbrev pub telling : {A : Type 0} → Option A → Next (Unit {0}) A
telling (Some answer) = Next.Over answer
telling None = Next.Never

-- a call that asks for one event, whose reply tells the answer
abbrev pub one_event : {A : Type 0} → Event → (Reply → Option A) → Call (Unit {0}) A
one_event event tells = record { asks = λ stage. event; after = λ stage reply. telling (tells reply) }

-- A call of one event over a way: it adds this one entry besides settles, and none where it is cut off.
pub record Asks {T E : Type 0} (event : Event) (tells : Reply → Option (Result T E)) (cut : E → Option StepFault) (old new : WayView) (result : Result T E) : Type 0 where
  pub call : Makes (one_event event tells) tt cut old new result
  pub once : asked_count call.parts ≡ cond (is_some (cut_by cut result)) 0 1
