-- The event with which a call comes to an answer of some kind.
use Rattle.std.proofs.Common.{◌≡◌, ℕ, ◌+◌, ◌≤◌, ◌⊎◌, inl, inr, Bool, true, false, cond, List, [], ◌∷◌, sym, ◌∙◌, ap, subst, arith}
use Rattle.unit_id.specs.Lists.{IsIn}
use Rattle.volume_world.specs.declared.event.Event.{Event}
use Rattle.volume_world.specs.declared.reply.Reply.{Reply}
use Rattle.volume_world.specs.Course.{Part, trace_at, is_fault, fault_count}
use Rattle.volume_world.specs.Call.{Next, Call, IsRest}

-- the point is an answer of this kind
abbrev pub gives : {S A : Type 0} → (A → Bool) → Next S A → Bool
gives kind (Next.Over given) = kind given
gives kind (Next.Go stage) = false
gives kind Next.Never = false

-- an event of the stretch, with a reply that makes such an answer
pub record CauseIn {S A : Type 0} (call : Call S A) (kind : A → Bool) (parts : List Part) : Type 0 where
  pub stage : S
  pub reply : Reply
  pub there : IsIn (Part.Asking (call.asks stage) reply) parts
  pub makes : gives kind (call.after stage reply) ≡ true

cause_later : {S A : Type 0} (call : Call S A) (kind : A → Bool) (part : Part) (parts : List Part) → CauseIn call kind parts → CauseIn call kind (part ∷ parts)
cause_later call kind part parts h = record { stage = h.stage; reply = h.reply; there = inr h.there; makes = h.makes }

-- behind one part more
further : {S A : Type 0} (call : Call S A) (kind : A → Bool) (next : Next S A) (part : Part) (parts : List Part) → (gives kind next ≡ true) ⊎ CauseIn call kind parts
    → (gives kind next ≡ true) ⊎ CauseIn call kind (part ∷ parts)
further call kind next part parts h = elim h [ inl g ↦ inl g | inr c ↦ inr (cause_later call kind part parts c) ]

asked : {S A : Type 0} (call : Call S A) (kind : A → Bool) (stage : S) (event : Event) (reply : Reply) (parts : List Part) → event ≡ call.asks stage
    → (gives kind (call.after stage reply) ≡ true) ⊎ CauseIn call kind parts → CauseIn call kind (Part.Asking event reply ∷ parts)
asked call kind stage event reply parts e h = elim h [
  | inl g ↦ record { stage = stage; reply = reply; there = inl (ap (λ (x : Event). Part.Asking x reply) (sym e)); makes = g }
  | inr c ↦ cause_later call kind (Part.Asking event reply) parts c
]

rest_cause : {S A : Type 0} (call : Call S A) (kind : A → Bool) (next : Next S A) (parts : List Part) (answer : A) → IsRest call next parts answer → kind answer ≡ true
    → (gives kind next ≡ true) ⊎ CauseIn call kind parts
rest_cause call kind (Next.Over given) [] answer h p = inl (ap kind (sym h) ∙ p)
rest_cause call kind (Next.Go stage) [] answer h p = absurd h
rest_cause call kind Next.Never [] answer h p = absurd h
rest_cause call kind (Next.Over given) (Part.Beside trace ∷ parts) answer h p = further call kind (Next.Over given) (Part.Beside trace) parts (rest_cause call kind (Next.Over given) parts answer h p)
rest_cause call kind (Next.Go stage) (Part.Beside trace ∷ parts) answer h p = further call kind (Next.Go stage) (Part.Beside trace) parts (rest_cause call kind (Next.Go stage) parts answer h p)
rest_cause call kind Next.Never (Part.Beside trace ∷ parts) answer h p = further call kind Next.Never (Part.Beside trace) parts (rest_cause call kind Next.Never parts answer h p)
rest_cause call kind (Next.Over given) (Part.Settling trace ∷ parts) answer h p = further call kind (Next.Over given) (Part.Settling trace) parts (rest_cause call kind (Next.Over given) parts answer h p)
rest_cause call kind (Next.Go stage) (Part.Settling trace ∷ parts) answer h p = further call kind (Next.Go stage) (Part.Settling trace) parts (rest_cause call kind (Next.Go stage) parts answer h p)
rest_cause call kind Next.Never (Part.Settling trace ∷ parts) answer h p = further call kind Next.Never (Part.Settling trace) parts (rest_cause call kind Next.Never parts answer h p)
rest_cause call kind (Next.Go stage) (Part.Asking event reply ∷ parts) answer h p = inr (asked call kind stage event reply parts h.0 (rest_cause call kind (call.after stage reply) parts answer h.1 p))
rest_cause call kind (Next.Over given) (Part.Asking event reply ∷ parts) answer h p = absurd h
rest_cause call kind Next.Never (Part.Asking event reply ∷ parts) answer h p = absurd h

-- a call that goes on comes to its answer by an event
pub going_cause : {S A : Type 0} (call : Call S A) (kind : A → Bool) (stage : S) (parts : List Part) (answer : A) → IsRest call (Next.Go stage) parts answer → kind answer ≡ true → CauseIn call kind parts
going_cause call kind stage parts answer h p = elim (rest_cause call kind (Next.Go stage) parts answer h p) [ inl g ↦ absurd (cc g) | inr c ↦ c ]

-- ---- faults

one_at_least : (b : Bool) (n : ℕ) → b ≡ true → 1 ≤ cond b 1 0 + n
one_at_least true n e = omega arith
one_at_least false n e = absurd (cc e)

-- an entry with a fault counts
pub fault_there : (part : Part) (parts : List Part) → IsIn part parts → is_fault (trace_at part).reply ≡ true → 1 ≤ fault_count parts
fault_there part [] i h = absurd i
fault_there part (first ∷ parts) i h = elim i [
  | inl e ↦ one_at_least (is_fault (trace_at first).reply) (fault_count parts) (subst (λ (p : Part). is_fault (trace_at p).reply ≡ true) e h)
  | inr there ↦ (let more = fault_there part parts there h in omega arith)
]
