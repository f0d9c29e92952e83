-- Which stretches of a volume's history are decided by the state before them and by what is asked.
use Rattle.std.specs.Prelude.{◌≡◌, Bool, true, false, ◌&&◌, List, [], ◌∷◌, ◌++◌}
use Rattle.blob_node.specs.declared.fate.Fate.{Fate}
use Rattle.blob_node.specs.declared.fate.Fate.TheVariants as fate
use Rattle.volume_world.specs.Run.{World, Planned}
use Rattle.volume_world.specs.Trace.{reply_kept}
use Rattle.volume_world.specs.Way.{Origin}
use Rattle.volume_world.specs.Course.{Part, PartsLead}
use Rattle.volume_world.specs.Call.{Next, Call, IsRest, IsFront}
use Rattle.volume_world.specs.declared.event.Event.{Event}
use Rattle.volume_world.specs.declared.event.Event.TheVariants as events
use Rattle.volume_decided.specs.Decided.{is_failure}

-- a request that takes this fate is lost, or its answer is heard and nothing comes late
abbrev pub is_plain : Fate → Bool
is_plain fate.Pass = true
is_plain fate.Lose = true
is_plain fate.LoseReply = false
is_plain fate.LateReply = false
is_plain fate.LateRequest = false
is_plain fate.Again = false
is_plain fate.Slow = true

abbrev pub are_plain : List Planned → Bool
are_plain [] = true
are_plain (first ∷ rest) = is_plain first.fate && are_plain rest

-- only such fates are planned, and nothing is late
pub record IsPlain (w : World) : Type 0 where
  pub planned : are_plain w.planned ≡ true
  pub late : w.late ≡ []

-- the event plans no other fate
abbrev pub plans_plainly : Event → Bool
plans_plainly (events.Plan disk planned count) = is_plain planned
plans_plainly event = true

-- our own events alone, without a failure
abbrev pub AreClear : List Part → Type 0
AreClear [] = Unit {0}
AreClear (Part.Asking event reply ∷ parts) = (plans_plainly event ≡ true) × (is_failure (reply_kept reply) ≡ false) × AreClear parts
AreClear (part ∷ parts) = ⊥

-- the events that a stretch asks for
abbrev pub events_of : List Part → List Event
events_of [] = []
events_of (Part.Asking event reply ∷ parts) = event ∷ events_of parts
events_of (part ∷ parts) = events_of parts

-- from a plain state a clear stretch leads to another
pub record IsClear (origin : Origin) (w : World) (parts : List Part) (v : World) : Type 0 where
  pub plain : IsPlain w
  pub clear : AreClear parts
  pub leads : PartsLead origin w parts v

-- stretches of the same events have the same replies and lead to one state
abbrev pub StretchesAreDecided : Type 0
StretchesAreDecided = (origin : Origin) (w v u : World) (first second : List Part) → IsClear origin w first v → IsClear origin w second u → events_of first ≡ events_of second → (first ≡ second) × (v ≡ u)

-- a call that is made from one state twice asks for the same, has the same replies and the same answer, and leads to one state
abbrev pub CallsAreDecided : Type 0 → Type 0 → Type 0
CallsAreDecided S A = (call : Call S A) (next : Next S A) (origin : Origin) (w v u : World) (first second : List Part) (answer other : A)
    → IsClear origin w first v → IsClear origin w second u → IsRest call next first answer → IsRest call next second other
    → (first ≡ second) × (answer ≡ other) × (v ≡ u)

-- what a call asked for before it was broken off is the front of what it asks for when it goes on
abbrev pub FrontsAreDecided : Type 0 → Type 0 → Type 0
FrontsAreDecided S A = (call : Call S A) (next : Next S A) (origin : Origin) (w v u : World) (front whole : List Part) (answer : A)
    → IsClear origin w front v → IsClear origin w whole u → IsFront call next front → IsRest call next whole answer
    → (rest : List Part) × (whole ≡ front ++ rest)
