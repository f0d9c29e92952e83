-- An entry touches at most one unit: it is handled, or settled on an unbroken disk, over what the manager and the puts knew before.
use Rattle.std.proofs.Common.{◌≡◌, ℕ, ◌⊎◌, inl, inr, Bool, false, List, [], ◌∷◌, refl, sym, ◌∙◌, ap, subst}
use Rattle.std.specs.Prelude.{◌+◌, min}
use Rattle.code_mode.specs.VolumeShape.{last_time}
use Rattle.unit_id.specs.Place.{Place}
use Rattle.unit_id.specs.Request.{Request, Answer, place_of}
use Rattle.code_mode.specs.VolumeShape.{VolumeShape, IsVolumeShape}
use Rattle.blob_node.specs.declared.fate.Fate.{Fate}
use Rattle.blob_node.specs.declared.fate.Fate.TheVariants as fate
use Rattle.blob_node.specs.UnitAnswer.{Effect}
use Rattle.volume_entry.specs.Reply.{Reply}
use Rattle.volume_world.specs.Event.{Event}
use Rattle.volume_world.specs.State.{State}
use Rattle.volume_world.specs.Move.{Move, MovesAll, Issues, Handles, Hears, Happens, SettlesUnit}
use Rattle.volume_world.specs.Run.{Late, World, Step, Flushes, Does, Leads, moves_of_send, next_fate}
use Rattle.volume_world.specs.Invariant.{Kept}
use Rattle.volume_world.proofs.Unmoved.{IsUnmoved, unmoved_same, unmoved_on, unmoved_by, happen_unmoved, settle_unmoved}
use Rattle.volume_world.proofs.OtherMoves.{issue_kept}
use Rattle.volume_world.proofs.AllMoves.{move_kept}
use Rattle.volume_world.proofs.EntryMoves.{refused_same}

-- the same lock, homes, deletes, puts, units and answers
pub record IsSameGround (s t : State) : Type 0 where
  pub lock : t.manager.lock ≡ s.manager.lock
  pub homes : t.manager.homes ≡ s.manager.homes
  pub asked : t.manager.asked ≡ s.manager.asked
  pub status : t.puts.status ≡ s.puts.status
  pub units : IsUnmoved s t

ground_same : (s : State) → IsSameGround s s
ground_same s = record { lock = refl; homes = refl; asked = refl; status = refl; units = unmoved_same s }

ground_by : (s t x : State) → t ≡ x → IsSameGround s x → IsSameGround s t
ground_by s t x e h = subst (IsSameGround s) (sym e) h

-- one unit is handled or settled between two states within the entry
pub record IsTouched (shape : VolumeShape) (s t : State) : Type 0 where
  pub first : State
  pub last : State
  pub ground : IsSameGround s first
  pub kept : Kept shape first
  pub touch : ((request : Request) × (answer : Answer) × (effect : Effect) × Handles first request answer effect last)
      ⊎ ((place : Place) × (is_found : Bool) × SettlesUnit place first is_found last × (first.broken place.disk ≡ false))
  pub rest : IsUnmoved last t

abbrev pub Touches : VolumeShape → State → State → Type 0
Touches shape s t = IsUnmoved s t ⊎ IsTouched shape s t

issue_ground : (total : ℕ) (s : State) (r : Request) (t : State) → Issues total s r t → IsSameGround s t
issue_ground total s r t h = ground_by s t _ h.2 (record { lock = refl; homes = refl; asked = refl; status = refl; units = record { row = refl; is_released = refl; doubt = refl; given = refl } })

hear_unmoved : (s : State) (r : Request) (a : Answer) (t : State) → Hears s r a t → IsUnmoved s t
hear_unmoved s r a t h = unmoved_by s t _ h.1 (record { row = refl; is_released = refl; doubt = refl; given = refl })

tick_ground : (shape : VolumeShape) (s : State) (by : ℕ) (reply : Reply) (t : State) → Happens shape s (Event.Tick by) reply t → IsSameGround s t
tick_ground shape s by (Reply.Now time) t h = ground_by s t _ h.1 (record { lock = refl; homes = refl; asked = refl; status = refl; units = record { row = refl; is_released = refl; doubt = refl; given = refl } })
tick_ground shape s by reply t h = absurd h

ground_on : (s u t : State) → IsSameGround s u → IsSameGround u t → IsSameGround s t
ground_on s u t h k = record { lock = k.lock ∙ h.lock; homes = k.homes ∙ h.homes; asked = k.asked ∙ h.asked; status = k.status ∙ h.status; units = unmoved_on s u t h.units k.units }

-- a request that is issued, handled and perhaps heard
sent_touches : (shape : VolumeShape) (s : State) (f : Fate) (time : ℕ) (r : Request) (a : Answer) (e : Effect) (t : State) → IsVolumeShape shape → Kept shape s
    → MovesAll shape s (moves_of_send f time r a e) t → Touches shape s t
sent_touches shape s fate.Pass time r a e t good k h = inr (record {
  first = h.0;
  last = h.2.0;
  ground = issue_ground shape.total s r h.0 h.1;
  kept = issue_kept shape s r h.0 k h.1;
  touch = inl (r, a, e, h.2.1);
  rest = unmoved_by h.2.0 t h.2.2.0 h.2.2.2 (hear_unmoved h.2.0 r a h.2.2.0 h.2.2.1);
})
sent_touches shape s fate.Lose time r a e t good k h = inl (unmoved_by s t h.0 h.2 (issue_ground shape.total s r h.0 h.1).units)
sent_touches shape s fate.LoseReply time r a e t good k h = inr (record {
  first = h.0;
  last = h.2.0;
  ground = issue_ground shape.total s r h.0 h.1;
  kept = issue_kept shape s r h.0 k h.1;
  touch = inl (r, a, e, h.2.1);
  rest = unmoved_by h.2.0 t h.2.0 h.2.2 (unmoved_same h.2.0);
})
sent_touches shape s fate.LateReply time r a e t good k h = inr (record {
  first = h.0;
  last = h.2.0;
  ground = issue_ground shape.total s r h.0 h.1;
  kept = issue_kept shape s r h.0 k h.1;
  touch = inl (r, a, e, h.2.1);
  rest = unmoved_by h.2.0 t h.2.0 h.2.2 (unmoved_same h.2.0);
})
sent_touches shape s fate.LateRequest time r a e t good k h = inl (unmoved_by s t h.0 h.2 (issue_ground shape.total s r h.0 h.1).units)
sent_touches shape s fate.Again time r a e t good k h = inr (record {
  first = h.0;
  last = h.2.0;
  ground = issue_ground shape.total s r h.0 h.1;
  kept = issue_kept shape s r h.0 k h.1;
  touch = inl (r, a, e, h.2.1);
  rest = unmoved_by h.2.0 t h.2.2.0 h.2.2.2 (hear_unmoved h.2.0 r a h.2.2.0 h.2.2.1);
})
sent_touches shape s fate.Slow time r a e t good k h = inr (record {
  first = h.2.0;
  last = h.2.2.0;
  ground = ground_on s h.0 h.2.0 (issue_ground shape.total s r h.0 h.1) (tick_ground shape h.0 10 (Reply.Now (min (time + 10) last_time)) h.2.0 h.2.1);
  kept = move_kept shape h.0 (Move.Happen (Event.Tick 10) (Reply.Now (min (time + 10) last_time))) h.2.0 good (issue_kept shape s r h.0 k h.1) h.2.1;
  touch = inl (r, a, e, h.2.2.1);
  rest = unmoved_by h.2.2.0 t h.2.2.2.0 h.2.2.2.2 (hear_unmoved h.2.2.0 r a h.2.2.2.0 h.2.2.2.1);
})

world_same : (w v : World) → v ≡ w → IsUnmoved w.state v.state
world_same w v e = unmoved_by w.state v.state w.state (ap (λ (x : World). x.state) e) (unmoved_same w.state)

flush_touches : (shape : VolumeShape) (w : World) (late : List Late) (reply : Reply) (v : World) → Kept shape w.state → Flushes shape w late reply v → Touches shape w.state v.state
flush_touches shape w [] reply v k h = inl (world_same w v h.1)
flush_touches shape w (Late.LateRequest r ∷ rest) reply v k h = inr (record {
  first = w.state;
  last = h.1.2.0;
  ground = ground_same w.state;
  kept = k;
  touch = inl (r, h.1.0, h.1.1, h.1.2.1);
  rest = unmoved_by h.1.2.0 v.state h.1.2.0 h.1.2.2 (unmoved_same h.1.2.0);
})
flush_touches shape w (Late.LateAnswer r a ∷ rest) reply v k h = inl (unmoved_by w.state v.state h.1.0 h.1.2 (hear_unmoved w.state r a h.1.0 h.1.1))

does_touch : (shape : VolumeShape) (w : World) (event : Event) (reply : Reply) (v : World) → IsVolumeShape shape → Kept shape w.state → Does shape w event reply v → Touches shape w.state v.state
does_touch shape w (Event.Plan disk f count) reply v good k h = inl (unmoved_by w.state v.state w.state (ap (λ (x : World). x.state) h.1) (unmoved_same w.state))
does_touch shape w (Event.Send r) Reply.Barred v good k h = inl (world_same w v h.2)
does_touch shape w (Event.Send r) reply v good k h = sent_touches shape w.state (next_fate w.planned (place_of r).disk) w.state.time r h.answer h.effect v.state good k h.moves
does_touch shape w Event.FlushOne reply v good k h = flush_touches shape w w.late reply v k h.1
does_touch shape w (Event.Settle disk is_found) reply v good k h = elim h.1.0 [
  | inl manager ↦ inl (unmoved_by w.state v.state manager.1.0 manager.1.2 (settle_unmoved w.state is_found manager.1.0 manager.1.1))
  | inr unit ↦ inr (record {
    first = w.state;
    last = v.state;
    ground = ground_same w.state;
    kept = k;
    touch = inr (unit.1.place, is_found, unit.1.settles, ap w.state.broken unit.1.here ∙ unit.1.unbroken);
    rest = unmoved_same v.state;
  })
]
does_touch shape w event reply v good k h = inl (unmoved_by w.state v.state h.0.0 h.0.2 (happen_unmoved shape w.state event reply h.0.0 h.0.1))

pub entry_touches : (shape : VolumeShape) (w : World) (step : Step) (v : World) → IsVolumeShape shape → Kept shape w.state → Leads shape w step v → Touches shape w.state v.state
entry_touches shape w step v good k (inl h) = does_touch shape w step.event step.reply v good k h
entry_touches shape w step v good k (inr h) = inl (world_same w v (refused_same w step.event step.reply v h))
