-- A turn of one volume among the turns of all.
use Rattle.std.proofs.Common.{◌≡◌, ◌∙◌, sym, ap, refl, subst, ℕ, inl, inr, ◌==◌, Bool, true, false, cond, List, [], ◌∷◌, ◌++◌, Option, Some, None, Result, Ok, Err, append-nil}
use Rattle.std.specs.Prelude.{slice_get, slice_set}
use Rattle.disk_base.specs.Disk.{FileView}
use Rattle.disk_base.specs.Shelves.{ShelfView}
use Rattle.cluster_admin.specs.Cluster.{State}
use Rattle.volume_world.specs.declared.fault.StepFault.{StepFault}
use Rattle.volume_world.specs.declared.fault.StepFault.TheVariants.{Memory}
use Rattle.volume_turns.specs.declared.command.VolumeCommand.{VolumeCommand}
use Rattle.volume_turns.specs.declared.reply.VolumeReply.{VolumeReply}
use Rattle.volume_turns.specs.Answers.{Replied}
use Rattle.volume_turns.specs.Turn.{Plays}
use Rattle.volume_turns.specs.Session.{Turn}
use Rattle.volume_turns.proofs.Sessions.{turn_of, session_none, session_further}
use Rattle.cluster_store.specs.declared.reply.Reply.{Reply}
use Rattle.cluster_store.specs.Plan.{Step, Plan, Follows}
use Rattle.cluster_store.specs.Store.{OpenedOver, StoreOver, IsStore, turns_at, way_at, PlaysAt, IsSlotSession, AreSessions}
use Rattle.cluster_store.specs.Asking.{Stands, Reaches, Played}
use Rattle.cluster_store.proofs.Lists.{get_set_same, get_set_other, tells}
use Rattle.cluster_store.proofs.Plans.{step_at, stands_here, stands_on, stands_off, stands_end}

-- the turns of a volume, with one more turn of some volume
cond_more : (b : Bool) (turn last : Turn) (turns : List Turn) → cond b (turn ∷ turns) turns ++ last ∷ [] ≡ cond b (turn ∷ (turns ++ last ∷ [])) (turns ++ last ∷ [])
cond_more true turn last turns = refl
cond_more false turn last turns = refl

turns_own : (place : ℕ) (steps : List Step) (turn : Turn) → turns_at place (steps ++ step_at place turn ∷ []) ≡ turns_at place steps ++ turn ∷ []
turns_own place [] turn = elim (tells place place) [
  | inl same ↦ ap (λ (b : Bool). cond b (turn ∷ []) []) same.0
  | inr other ↦ absurd (other.1 refl)
]
turns_own place (step ∷ steps) turn =
    ap (λ (ts : List Turn). cond (step.place == place) (step.turn ∷ ts) ts) (turns_own place steps turn) ∙ sym (cond_more (step.place == place) step.turn turn (turns_at place steps))

turns_other : (place other : ℕ) (steps : List Step) (turn : Turn) → (place == other) ≡ false → turns_at other (steps ++ step_at place turn ∷ []) ≡ turns_at other steps
turns_other place other [] turn h = ap (λ (b : Bool). cond b (turn ∷ []) []) h
turns_other place other (step ∷ steps) turn h = ap (λ (ts : List Turn). cond (step.place == other) (step.turn ∷ ts) ts) (turns_other place other steps turn h)

module _ {S E : Type 0} (shelf_seen : S → ShelfView E) (seen : E → FileView) where
  -- without turns all stays
  slot_none : (slot : Option (Option (OpenedOver S E))) → IsSlotSession shelf_seen seen slot slot []
  slot_none (Some (Some opened)) = session_none (way_at shelf_seen seen opened)
  slot_none (Some None) = refl
  slot_none None = refl

  pub sessions_none : (volumes : List (Option (OpenedOver S E))) → AreSessions shelf_seen seen volumes volumes []
  sessions_none volumes place = slot_none (slice_get volumes place)

  -- a session of one slot goes on with a turn there
  slot_more : (old : Option (Option (OpenedOver S E))) (before after : OpenedOver S E) (turns : List Turn) (command : VolumeCommand) (result : Replied) (p : Plays (way_at shelf_seen seen before) (way_at shelf_seen seen after) command result)
      → IsSlotSession shelf_seen seen old (Some (Some before)) turns
      → IsSlotSession shelf_seen seen old (Some (Some after)) (turns ++ turn_of (way_at shelf_seen seen before) (way_at shelf_seen seen after) command result p ∷ [])
  slot_more (Some (Some first)) before after turns command result p h =
      session_further (way_at shelf_seen seen first) (way_at shelf_seen seen before) (way_at shelf_seen seen after) turns command result h p
  slot_more (Some None) before after turns command result p h = absurd h
  slot_more None before after turns command result p h = absurd h

  -- the turn that was played
  abbrev pub played_turn : (mid new : StoreOver S E) (place : ℕ) (command : VolumeCommand) (result : Replied) → PlaysAt shelf_seen seen mid new place command result → Turn
  played_turn mid new place command result p = turn_of (way_at shelf_seen seen p.before) (way_at shelf_seen seen p.after) command result p.plays

  new_volumes : (mid new : StoreOver S E) (place : ℕ) (command : VolumeCommand) (result : Replied) (p : PlaysAt shelf_seen seen mid new place command result)
      → new.volumes ≡ slice_set mid.volumes place (Some p.after)
  new_volumes mid new place command result p = ap (λ (s : StoreOver S E). s.volumes) p.new_is

  pub sessions_more : (old : List (Option (OpenedOver S E))) (mid new : StoreOver S E) (steps : List Step) (place : ℕ) (command : VolumeCommand) (result : Replied) → AreSessions shelf_seen seen old mid.volumes steps
      → (p : PlaysAt shelf_seen seen mid new place command result) → AreSessions shelf_seen seen old new.volumes (steps ++ step_at place (played_turn mid new place command result p) ∷ [])
  sessions_more old mid new steps place command result h p other = elim (tells place other) [
    | inl same ↦
        let turn = played_turn mid new place command result p in
        let there : slice_get new.volumes place ≡ Some (Some p.after) =
        ap (λ vs. slice_get vs place) (new_volumes mid new place command result p) ∙ get_set_same mid.volumes place (Some p.after) (Some p.before) p.there in
        subst (λ (q : ℕ). IsSlotSession shelf_seen seen (slice_get old q) (slice_get new.volumes q) (turns_at q (steps ++ step_at place turn ∷ []))) same.1
        (subst (λ (ts : List Turn). IsSlotSession shelf_seen seen (slice_get old place) (slice_get new.volumes place) ts) (sym (turns_own place steps turn))
        (subst (λ slot. IsSlotSession shelf_seen seen (slice_get old place) slot (turns_at place steps ++ turn ∷ [])) (sym there)
        (slot_more (slice_get old place) p.before p.after (turns_at place steps) command result p.plays
        (subst (λ slot. IsSlotSession shelf_seen seen (slice_get old place) slot (turns_at place steps)) p.there (h place)))))
    | inr apart ↦
        let turn = played_turn mid new place command result p in
        let there : slice_get new.volumes other ≡ slice_get mid.volumes other =
        ap (λ vs. slice_get vs other) (new_volumes mid new place command result p) ∙ get_set_other mid.volumes place other (Some p.after) apart.1 in
        subst (λ (ts : List Turn). IsSlotSession shelf_seen seen (slice_get old other) (slice_get new.volumes other) ts) (sym (turns_other place other steps turn apart.0))
        (subst (λ slot. IsSlotSession shelf_seen seen (slice_get old other) slot (turns_at other steps)) (sym there) (h other))
  ]

  pub same_tables : (mid new : StoreOver S E) (place : ℕ) (command : VolumeCommand) (result : Replied) → PlaysAt shelf_seen seen mid new place command result → new.tables ≡ mid.tables
  same_tables mid new place command result p = ap (λ (s : StoreOver S E). s.tables) p.new_is

  -- ---- plans

  pub reach_none : (store : StoreOver S E) (plan : Plan) → IsStore store → Reaches shelf_seen seen store store plan plan
  reach_none store plan is = record { steps = []; turns_are = sessions_none store.volumes; stands = stands_here plan; is = is }

  pub reach_more : (old mid new : StoreOver S E) (plan : Plan) (tables : State) (place : ℕ) (command : VolumeCommand) (next : VolumeReply → Plan) (reply : VolumeReply)
      → Reaches shelf_seen seen old mid plan (Plan.Ask tables place command next) → PlaysAt shelf_seen seen mid new place command (Ok reply) → Reaches shelf_seen seen old new plan (next reply)
  reach_more old mid new plan tables place command next reply h p = record {
    steps = h.steps ++ step_at place (played_turn mid new place command (Ok reply) p) ∷ [];
    turns_are = sessions_more old.volumes mid new h.steps place command (Ok reply) h.turns_are p;
    stands = stands_on plan h.steps tables place command next (played_turn mid new place command (Ok reply) p) reply h.stands refl refl;
    is = p.is;
  }

  -- a turn has no reply
  pub reach_off : (old mid new : StoreOver S E) (plan : Plan) (tables : State) (place : ℕ) (command : VolumeCommand) (next : VolumeReply → Plan) (fault : StepFault)
      → Reaches shelf_seen seen old mid plan (Plan.Ask tables place command next) → mid.tables ≡ tables → PlaysAt shelf_seen seen mid new place command (Err fault) → Played shelf_seen seen plan old new (Err fault)
  reach_off old mid new plan tables place command next fault h same p = record {
    steps = h.steps ++ step_at place (played_turn mid new place command (Err fault) p) ∷ [];
    turns_are = sessions_more old.volumes mid new h.steps place command (Err fault) h.turns_are p;
    follows = subst (λ (t : State). Follows plan (h.steps ++ step_at place (played_turn mid new place command (Err fault) p) ∷ []) t (Err fault)) (sym (same_tables mid new place command (Err fault) p ∙ same))
        (stands_off plan h.steps tables place command next (played_turn mid new place command (Err fault) p) fault h.stands refl refl);
    is = p.is;
  }

  -- no turn more
  pub reach_end : (old new : StoreOver S E) (plan now : Plan) (result : Result Reply StepFault) → Reaches shelf_seen seen old new plan now → Follows now [] new.tables result → Played shelf_seen seen plan old new result
  reach_end old new plan now result h end = record { steps = h.steps; turns_are = h.turns_are; follows = stands_end plan h.steps now new.tables result h.stands end; is = h.is }

  -- .. it is over
  pub reach_over : (old new : StoreOver S E) (plan : Plan) (before behind : State) (reply : Reply) → Reaches shelf_seen seen old new plan (Plan.Over before behind reply) → new.tables ≡ behind
      → Played shelf_seen seen plan old new (Ok reply)
  reach_over old new plan before behind reply h same = reach_end old new plan (Plan.Over before behind reply) (Ok reply) h (inl (same, refl))
