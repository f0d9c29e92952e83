-- What a command asks of the volumes of a store, one after the other.
use Rattle.std.specs.Prelude.{ℕ, ◌≡◌, ◌⊎◌, List, [], ◌∷◌, Result, Ok, Err}
use Rattle.cluster_admin.specs.Cluster.{State}
use Rattle.volume_world.specs.declared.fault.StepFault.{StepFault}
use Rattle.volume_world.specs.declared.fault.StepFault.TheVariants.{Memory}
use Rattle.volume_turns.specs.declared.command.VolumeCommand.{VolumeCommand}
use Rattle.volume_turns.specs.declared.reply.VolumeReply.{VolumeReply}
use Rattle.volume_turns.specs.Session.{Turn}
use Rattle.cluster_store.specs.declared.reply.Reply.{Reply}

-- a turn of the volume at this place; its number is one more
pub record Step : Type 0 where
  pub place : ℕ
  pub turn : Turn

pub data Plan : Type 0 where
  -- the volume at a place is next, with this command, while these are the tables; its reply says how it goes on
  Ask : State → ℕ → VolumeCommand → (VolumeReply → Plan) → Plan
  -- no volume is asked any more: the tables before and behind the end, and the reply
  Over : State → State → Reply → Plan
  -- there is no such reply
  Never : Plan

-- by whether a turn has a reply
abbrev pub ByResult : {T E : Type 0} → Result T E → (T → Type 0) → (E → Type 0) → Type 0
ByResult (Ok reply) given broken = given reply
ByResult (Err fault) given broken = broken fault

-- it is over, or there is no memory for its end
abbrev pub Ends : State → State → Reply → State → Result Reply StepFault → Type 0
Ends before behind reply new result = ((new ≡ behind) × (result ≡ Ok reply)) ⊎ ((new ≡ before) × (result ≡ Err Memory))

-- The plan is followed by these turns, and these are the tables behind it and the reply. It breaks off where a turn has no reply, or before a turn
-- for want of memory.
abbrev pub Follows : Plan → List Step → State → Result Reply StepFault → Type 0
Follows (Plan.Over before behind reply) [] new result = Ends before behind reply new result
Follows (Plan.Over before behind reply) (step ∷ steps) new result = ⊥
Follows (Plan.Ask tables place command next) [] new result = (new ≡ tables) × (result ≡ Err Memory)
Follows (Plan.Ask tables place command next) (step ∷ steps) new result =
    (step.place ≡ place) × (step.turn.command ≡ command)
    × ByResult step.turn.result (λ reply. Follows (next reply) steps new result) (λ fault. (steps ≡ []) × (new ≡ tables) × (result ≡ Err fault))
Follows Plan.Never steps new result = ⊥
