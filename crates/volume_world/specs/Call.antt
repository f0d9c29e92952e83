-- Calls on one volume through a way: the event that each stage asks for, and what its reply makes of the call.
use Rattle.std.specs.Prelude.{◌≡◌, List, [], ◌∷◌}
use Rattle.volume_world.specs.declared.event.Event.{Event}
use Rattle.volume_world.specs.declared.reply.Reply.{Reply}
use Rattle.volume_world.specs.Course.{Part}

-- a further stage, or the answer; a reply that never comes there has neither
pub data Next (S A : Type 0) : Type 0 where
  Go : S → Next S A
  Over : A → Next S A
  Never : Next S A

pub record Call (S A : Type 0) : Type 0 where
  pub asks : S → Event
  pub after : S → Reply → Next S A

-- the events of our own in this stretch are those of a call from here on, in order, and this is its answer
abbrev pub IsRest : {S A : Type 0} → Call S A → Next S A → List Part → A → Type 0
IsRest call (Next.Over given) [] answer = answer ≡ given
IsRest call next [] answer = ⊥
IsRest call next (Part.Beside trace ∷ parts) answer = IsRest call next parts answer
IsRest call next (Part.Settling trace ∷ parts) answer = IsRest call next parts answer
IsRest call (Next.Go stage) (Part.Asking event reply ∷ parts) answer = (event ≡ call.asks stage) × IsRest call (call.after stage reply) parts answer
IsRest call next (Part.Asking event reply ∷ parts) answer = ⊥

-- .. they are the first ones of such a call
abbrev pub IsFront : {S A : Type 0} → Call S A → Next S A → List Part → Type 0
IsFront call next [] = Unit {0}
IsFront call next (Part.Beside trace ∷ parts) = IsFront call next parts
IsFront call next (Part.Settling trace ∷ parts) = IsFront call next parts
IsFront call (Next.Go stage) (Part.Asking event reply ∷ parts) = (event ≡ call.asks stage) × IsFront call (call.after stage reply) parts
IsFront call next (Part.Asking event reply ∷ parts) = ⊥
