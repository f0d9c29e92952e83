-- Calls that come to their answers, and calls that are cut off.
use Rattle.std.proofs.Common.{◌≡◌, ◌≤◌, cond, List, [], ◌∷◌, length, Option, Some, None, is_some, Result, Ok, Err, refl, sym, ◌∙◌, ap, subst, arith}
use Rattle.volume_world.specs.declared.event.Event.{Event}
use Rattle.volume_world.specs.declared.reply.Reply.{Reply}
use Rattle.volume_world.specs.declared.fault.StepFault.{StepFault}
use Rattle.volume_world.specs.declared.fault.StepFault.TheVariants.{HistoryFull, Memory}
use Rattle.volume_world.specs.declared.trace.Trace.{Trace}
use Rattle.volume_world.specs.Way.{WayView, longest_history}
use Rattle.volume_world.specs.Course.{Part, IsFull, StepsBy}
use Rattle.volume_world.specs.Call.{Next, Call, IsRest}
use Rattle.volume_world.specs.Progress.{Comes, Proceeds}
use Rattle.volume_world.proofs.Comings.{step_proceeds, comes_rest}
use Rattle.volume_calls.specs.CallForm.{cut_by, EndsBy, Makes, asked_count, telling, one_event, Asks}

-- ---- whole calls

abbrev fault_or : StepFault → Option StepFault → StepFault
fault_or other (Some fault) = fault
fault_or other None = other

-- the history is full behind the entries of others
full_there : (old new : WayView) → IsFull old new → longest_history ≤ length new.entries
full_there old new h = subst (λ (entries : List Trace). longest_history ≤ length entries) (sym h.goes.entries) h.full

pub full_then : (old new : WayView) (event : Event) (fault : StepFault) → StepsBy old new event (Err fault) → fault ≡ HistoryFull → longest_history ≤ length new.entries
full_then old new event HistoryFull h e = full_there old new h
full_then old new event Memory h e = absurd (cc e)

-- a call that comes to its answer
pub made_whole : {S T E : Type 0} (call : Call S (Result T E)) (first : S) (cut : E → Option StepFault) (old new : WayView) (result : Result T E) → cut_by cut result ≡ None
    → Proceeds call old new (Next.Go first) (Next.Over result) → Makes call first cut old new result
made_whole call first cut old new result whole h = record {
  parts = h.parts;
  goes = h.goes;
  fits = h.fits;
  ends = subst (λ (by : Option StepFault). EndsBy call first h.parts result by) (sym whole) (comes_rest call (Next.Go first) h.parts result h.comes);
  full = λ e. absurd (let both : None ≡ Some HistoryFull = sym whole ∙ e in cc);
}

-- a call that is cut off before a stage
pub made_cut : {S T E : Type 0} (call : Call S (Result T E)) (first stage : S) (cut : E → Option StepFault) (old new : WayView) (fault : StepFault) (why : E) → cut why ≡ Some fault
    → (fault ≡ HistoryFull → longest_history ≤ length new.entries) → Proceeds call old new (Next.Go first) (Next.Go stage) → Makes call first cut old new (Err why)
made_cut {S} {T} {E} call first stage cut old new fault why is full h = record {
  parts = h.parts;
  goes = h.goes;
  fits = h.fits;
  ends = subst (λ (by : Option StepFault). EndsBy {T = T} call first h.parts (Err why) by) (sym is) (stage, h.comes);
  full = λ e. full (ap (fault_or fault) (sym is ∙ e));
}

-- ---- how much is asked

pub rest_over : {S A : Type 0} (call : Call S A) (given answer : A) (parts : List Part) → IsRest call (Next.Over given) parts answer → (answer ≡ given) × (asked_count parts ≡ 0)
rest_over call given answer [] h = (h, refl)
rest_over call given answer (Part.Beside trace ∷ parts) h = rest_over call given answer parts h
rest_over call given answer (Part.Settling trace ∷ parts) h = rest_over call given answer parts h
rest_over call given answer (Part.Asking event reply ∷ parts) h = absurd h

pub rest_never : {S A : Type 0} (call : Call S A) (answer : A) (parts : List Part) → IsRest call Next.Never parts answer → ⊥
rest_never call answer [] h = h
rest_never call answer (Part.Beside trace ∷ parts) h = rest_never call answer parts h
rest_never call answer (Part.Settling trace ∷ parts) h = rest_never call answer parts h
rest_never call answer (Part.Asking event reply ∷ parts) h = h

none_left : {A : Type 0} (event : Event) (tells : Reply → Option A) (told : Option A) (answer : A) (parts : List Part) → IsRest (one_event event tells) (telling told) parts answer → asked_count parts ≡ 0
none_left event tells (Some given) answer parts h = (rest_over (one_event event tells) given answer parts h).1
none_left event tells None answer parts h = absurd (rest_never (one_event event tells) answer parts h)

asked_once : {A : Type 0} (event : Event) (tells : Reply → Option A) (answer : A) (parts : List Part) → IsRest (one_event event tells) (Next.Go tt) parts answer → asked_count parts ≡ 1
asked_once event tells answer [] h = absurd h
asked_once event tells answer (Part.Beside trace ∷ parts) h = asked_once event tells answer parts h
asked_once event tells answer (Part.Settling trace ∷ parts) h = asked_once event tells answer parts h
asked_once event tells answer (Part.Asking asked reply ∷ parts) h = let rest = none_left event tells (tells reply) answer parts h.1 in omega arith

-- what is over doesn't go on
no_further : {A : Type 0} (event : Event) (tells : Reply → Option A) (told : Option A) (stage : Unit {0}) (parts : List Part) → Comes (one_event event tells) (telling told) parts (Next.Go stage) → ⊥
no_further event tells (Some given) stage [] h = cc h
no_further event tells None stage [] h = cc h
no_further event tells (Some given) stage (Part.Beside trace ∷ parts) h = no_further event tells (Some given) stage parts h
no_further event tells None stage (Part.Beside trace ∷ parts) h = no_further event tells None stage parts h
no_further event tells (Some given) stage (Part.Settling trace ∷ parts) h = no_further event tells (Some given) stage parts h
no_further event tells None stage (Part.Settling trace ∷ parts) h = no_further event tells None stage parts h
no_further event tells (Some given) stage (Part.Asking asked reply ∷ parts) h = h
no_further event tells None stage (Part.Asking asked reply ∷ parts) h = h

asked_none : {A : Type 0} (event : Event) (tells : Reply → Option A) (stage : Unit {0}) (parts : List Part) → Comes (one_event event tells) (Next.Go tt) parts (Next.Go stage) → asked_count parts ≡ 0
asked_none event tells stage [] h = refl
asked_none event tells stage (Part.Beside trace ∷ parts) h = asked_none event tells stage parts h
asked_none event tells stage (Part.Settling trace ∷ parts) h = asked_none event tells stage parts h
asked_none event tells stage (Part.Asking asked reply ∷ parts) h = absurd (no_further event tells (tells reply) stage parts h.1)

asked_as : {T E : Type 0} (event : Event) (tells : Reply → Option (Result T E)) (result : Result T E) (parts : List Part) (by : Option StepFault) → EndsBy (one_event event tells) tt parts result by
    → asked_count parts ≡ cond (is_some by) 0 1
asked_as event tells result parts None h = asked_once event tells result parts h
asked_as event tells result parts (Some fault) h = asked_none event tells h.0 parts h.1

-- ---- calls of one event

asks : {T E : Type 0} (event : Event) (tells : Reply → Option (Result T E)) (cut : E → Option StepFault) (old new : WayView) (result : Result T E) → Makes (one_event event tells) tt cut old new result
    → Asks event tells cut old new result
asks event tells cut old new result h = record { call = h; once = asked_as event tells result h.parts (cut_by cut result) h.ends }

-- by a step that is done
pub asks_whole : {T E : Type 0} (event : Event) (tells : Reply → Option (Result T E)) (cut : E → Option StepFault) (old new : WayView) (reply : Reply) (result : Result T E) → cut_by cut result ≡ None
    → tells reply ≡ Some result → StepsBy old new event (Ok reply) → Asks event tells cut old new result
asks_whole {T} {E} event tells cut old new reply result whole told h =
    let call = one_event event tells in
    asks event tells cut old new result
    (made_whole call tt cut old new result whole
    (subst (λ (to : Next (Unit {0}) (Result T E)). Proceeds call old new (Next.Go tt) to) (ap telling told) (step_proceeds call old new tt event (Ok reply) refl h)))

-- by one that isn't
pub asks_cut : {T E : Type 0} (event : Event) (tells : Reply → Option (Result T E)) (cut : E → Option StepFault) (old new : WayView) (fault : StepFault) (why : E) → cut why ≡ Some fault
    → StepsBy old new event (Err fault) → Asks event tells cut old new (Err why)
asks_cut event tells cut old new fault why is h =
    let call = one_event event tells in
    asks event tells cut old new (Err why) (made_cut call tt tt cut old new fault why is (full_then old new event fault h) (step_proceeds call old new tt event (Err fault) refl h))
