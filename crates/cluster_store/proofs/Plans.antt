-- How a plan is followed turn by turn.
use Rattle.std.proofs.Common.{◌≡◌, sym, ap, refl, subst, ℕ, inl, inr, List, [], ◌∷◌, ◌++◌, Result, Ok, Err, append_assoc, append-nil}
use Rattle.cluster_admin.specs.Cluster.{State}
use Rattle.volume_world.specs.declared.fault.StepFault.{StepFault}
use Rattle.volume_world.specs.declared.fault.StepFault.TheVariants.{Memory}
use Rattle.volume_turns.specs.declared.command.VolumeCommand.{VolumeCommand}
use Rattle.volume_turns.specs.declared.reply.VolumeReply.{VolumeReply}
use Rattle.volume_turns.specs.Answers.{Replied}
use Rattle.volume_turns.specs.Session.{Turn}
use Rattle.cluster_store.specs.declared.reply.Reply.{Reply}
use Rattle.cluster_store.specs.Plan.{Step, Plan, ByResult, Follows}
use Rattle.cluster_store.specs.Asking.{Stands}

abbrev pub step_at : ℕ → Turn → Step
step_at place turn = record { place = place; turn = turn }

abbrev no_steps : List Step
no_steps = []

abbrev broken_by : StepFault → Result Reply StepFault
broken_by fault = Err fault

pub stands_here : (plan : Plan) → Stands plan [] plan
stands_here plan rest new result h = h

-- a turn that has a reply
pub stands_on : (plan : Plan) (steps : List Step) (tables : State) (place : ℕ) (command : VolumeCommand) (next : VolumeReply → Plan) (turn : Turn) (reply : VolumeReply)
    → Stands plan steps (Plan.Ask tables place command next) → turn.command ≡ command → turn.result ≡ Ok reply → Stands plan (steps ++ step_at place turn ∷ []) (next reply)
stands_on plan steps tables place command next turn reply h is given rest new result follows =
    subst (λ (s : List Step). Follows plan s new result) (sym (append_assoc steps (step_at place turn ∷ []) rest))
    (h (step_at place turn ∷ rest) new result
    (refl, is, subst (λ (r : Replied). ByResult r (λ told. Follows (next told) rest new result) (λ fault. (rest ≡ []) × (new ≡ tables) × (result ≡ Err fault))) (sym given) follows))

-- a turn that has none
pub stands_off : (plan : Plan) (steps : List Step) (tables : State) (place : ℕ) (command : VolumeCommand) (next : VolumeReply → Plan) (turn : Turn) (fault : StepFault)
    → Stands plan steps (Plan.Ask tables place command next) → turn.command ≡ command → turn.result ≡ Err fault → Follows plan (steps ++ step_at place turn ∷ []) tables (Err fault)
stands_off plan steps tables place command next turn fault h is given =
    h (step_at place turn ∷ []) tables (Err fault)
    (refl, is, subst (λ (r : Replied). ByResult r (λ told. Follows (next told) [] tables (Err fault)) (λ why. (no_steps ≡ []) × (tables ≡ tables) × (broken_by fault ≡ Err why))) (sym given) (refl, refl, refl))

-- nothing more is asked
pub stands_end : (plan : Plan) (steps : List Step) (now : Plan) (new : State) (result : Result Reply StepFault) → Stands plan steps now → Follows now [] new result → Follows plan steps new result
stands_end plan steps now new result h end = subst (λ (s : List Step). Follows plan s new result) (append-nil steps) (h [] new result end)
