-- Every move leaves records in doubt in shut chunks.
-- Why: a record comes into doubt where its chunk is shut then, and a chunk starts only without one.
use Rattle.std.proofs.Common.{◌≡◌, ◌∙◌, sym, ap, refl, subst, ℕ, Bool, true, false, Option, Some, None, inl, inr, List}
use Rattle.std.specs.Prelude.{is_some, not, ◌&&◌, ◌==◌}
use Rattle.std.proofs.lemmas.Bool.{eqb-true}
use Rattle.unit_id.specs.Place.{Place}
use Rattle.unit_id.specs.Request.{Request, Answer, place_of}
use Rattle.code_mode.specs.VolumeShape.{VolumeShape}
use Rattle.blob_node.specs.Units.{UnitRecord, Units, with_unit}
use Rattle.blob_node.specs.UnitAnswer.{UnitView, Effect, Holds, Serves, Answers, Creates, view_at, units_after, started, with_written, record_of, settled, settled_at}
use Rattle.blob_node.proofs.Lookups.{there_now}
use Rattle.blob_node.proofs.Holdings.{never_both, record_doubt}
use Rattle.blob_node.proofs.Standing.{SameAt, decide, after_elsewhere, settled_elsewhere}
use Rattle.volume_entry.specs.Reply.{Reply}
use Rattle.volume_world.specs.Event.{Event}
use Rattle.volume_world.specs.State.{State}
use Rattle.volume_world.specs.Move.{Move, Moves, Begins, Ends, Ticks, Breaks, Restarts, RestartsManager, Looks, Happens, SettlesManager, SettlesUnit, OnlyManager}
use Rattle.volume_world.specs.OldDisks.{AreDoubtsShut}

-- ---- moves that leave the units alone

same_units : (s t x : State) → t ≡ x → x.units ≡ s.units → t.units ≡ s.units
same_units s t x e f = ap (λ (y : State). y.units) e ∙ f

begin_units : (bid : ℕ) (payload : List ℕ) (s : State) (reply : Reply) (t : State) → Begins bid payload s reply t
    → t.units ≡ s.units
begin_units bid payload s (Reply.Begun end homes flags) t h = same_units s t _ h.4 refl
begin_units bid payload s reply t h = same_units s t s h.1 refl

end_units : (shape : VolumeShape) (bid : ℕ) (s : State) (reply : Reply) (t : State) → Ends shape bid s reply t
    → t.units ≡ s.units
end_units shape bid s Reply.NotOpen t h = same_units s t s h.1 refl
end_units shape bid s (Reply.LeaseOver end time) t h = same_units s t _ h.4 refl
end_units shape bid s (Reply.Quorum n) t h = same_units s t _ h.4 refl
end_units shape bid s (Reply.Acked n) t h = same_units s t _ h.4 refl
end_units shape bid s reply t h = absurd h

tick_units : (by : ℕ) (s : State) (reply : Reply) (t : State) → Ticks by s reply t → t.units ≡ s.units
tick_units by s (Reply.Now time) t h = same_units s t _ h.1 refl
tick_units by s reply t h = absurd h

break_units : (disk : ℕ) (s : State) (reply : Reply) (t : State) → Breaks disk s reply t → t.units ≡ s.units
break_units disk s Reply.Done t h = same_units s t _ h refl
break_units disk s reply t h = absurd h

manager_units : (s : State) (reply : Reply) (t : State) → RestartsManager s reply t → t.units ≡ s.units
manager_units s Reply.Done t h = same_units s t _ h.1 refl
manager_units s Reply.Fault t h = same_units s t _ h refl
manager_units s reply t h = absurd h

look_units : (s : State) (reply : Reply) (t : State) → Looks s reply t → t.units ≡ s.units
look_units s (Reply.Seen view) t h = same_units s t s h.1 refl
look_units s reply t h = absurd h

settle_units : (s : State) (found : Bool) (t : State) → SettlesManager s found t → t.units ≡ s.units
settle_units s true t h = same_units s t _ h.2 refl
settle_units s false t h = same_units s t _ h.1 refl

by_manager : (s t : State) → OnlyManager s t → t.units ≡ s.units
by_manager s t e = same_units s t _ e refl

shut_as : (s t : State) → t.units ≡ s.units → AreDoubtsShut s.units → AreDoubtsShut t.units
shut_as s t e h = subst AreDoubtsShut (sym e) h

-- ---- a restart

opened : (disk : ℕ) (units : Units) → ((place : Place) → place.disk ≡ disk → units.doubt place ≡ None)
    → AreDoubtsShut units
    → AreDoubtsShut (record units { is_shut = λ place. not (place.disk == disk) && units.is_shut place })
opened disk units none h place doubtful = go (place.disk == disk) refl where
  go : (test : Bool) → (place.disk == disk) ≡ test → (not (place.disk == disk) && units.is_shut place) ≡ true
  go true e =
      absurd (never_both (is_some (units.doubt place)) (ap is_some (none place (eqb-true place.disk disk e))) doubtful)
  go false e = ap (λ b. not b && units.is_shut place) e ∙ h place doubtful

restart_shut : (disk : ℕ) (s : State) (reply : Reply) (t : State) → Restarts disk s reply t → AreDoubtsShut s.units
    → AreDoubtsShut t.units
restart_shut disk s Reply.Done t (inl r) h = shut_as s t (ap (λ (x : State). x.units) r.1) h
restart_shut disk s Reply.Done t (inr r) h =
    subst (λ (x : State). AreDoubtsShut x.units) (sym r.2) (opened disk s.units r.1 h)
restart_shut disk s Reply.Fault t r h =
    λ place doubtful. r.1.doubts place (ap (λ (u : Units). is_some (u.doubt place)) (sym r.1.same) ∙ doubtful)
restart_shut disk s reply t r h = absurd r

happen_shut : (shape : VolumeShape) (s : State) (event : Event) (reply : Reply) (t : State)
    → Happens shape s event reply t → AreDoubtsShut s.units → AreDoubtsShut t.units
happen_shut shape s (Event.Tick by) reply t h = shut_as s t (tick_units by s reply t h)
happen_shut shape s (Event.Plan disk fate count) reply t h = shut_as s t (same_units s t s h.1 refl)
happen_shut shape s (Event.Break disk) reply t h = shut_as s t (break_units disk s reply t h)
happen_shut shape s (Event.Restart disk) reply t h = restart_shut disk s reply t h
happen_shut shape s Event.RestartManager reply t h = shut_as s t (manager_units s reply t h)
happen_shut shape s Event.Lease reply t h = shut_as s t (by_manager s t h.1.1)
happen_shut shape s (Event.Begin bid payload) reply t h = shut_as s t (begin_units bid payload s reply t h.1.1)
happen_shut shape s (Event.End bid) reply t h = shut_as s t (end_units shape bid s reply t h.1)
happen_shut shape s (Event.Lock task targets) reply t h = shut_as s t (by_manager s t h.1.2)
happen_shut shape s (Event.Retarget task index disk) reply t h = shut_as s t (by_manager s t h.1.2)
happen_shut shape s (Event.Swap task) reply t h = shut_as s t (by_manager s t h.1.1)
happen_shut shape s (Event.Unlock task) reply t h = shut_as s t (by_manager s t h.1.1)
happen_shut shape s (Event.Ask bid) reply t h = shut_as s t (by_manager s t h.1.2)
happen_shut shape s (Event.Commit bid) reply t h = shut_as s t (by_manager s t h.1.2)
happen_shut shape s Event.Look reply t h = shut_as s t (look_units s reply t h.1)
happen_shut shape s event reply t h = absurd h.1

-- ---- a change at one place

-- nothing else changes elsewhere, and what is here is shut, or isn't in doubt
shut_but : (place : Place) (old new : Units) → ((q : Place) → (q ≡ place → ⊥) → SameAt new old q)
    → (is_some (new.doubt place) ≡ true → new.is_shut place ≡ true)
    → AreDoubtsShut old → AreDoubtsShut new
shut_but place old new same here h q doubtful = elim (decide q place) [
  | inl at ↦ subst (λ p. is_some (new.doubt p) ≡ true → new.is_shut p ≡ true) (sym at) here doubtful
  | inr other ↦ (same q other).shut (h q (ap is_some (sym (same q other).doubt) ∙ doubtful))
]

without : (d : Option UnitRecord) (flag : Bool) → d ≡ None → is_some d ≡ true → flag ≡ true
without d flag none doubtful = absurd (never_both (is_some d) (ap is_some none) doubtful)

written_doubt : (place : Place) (o : Option UnitRecord) (units : Units)
    → (with_written place o units).doubt place ≡ units.doubt place
written_doubt place None units = refl
written_doubt place (Some r) units = record_doubt place place r units

settled_none : (place : Place) (found : Bool) (units : Units) → (settled place found units).doubt place ≡ None
settled_none place true units =
    written_doubt place (units.doubt place) (settled_at place units) ∙ there_now place None units.doubt
settled_none place false units = there_now place None units.doubt

settled_shut : (place : Place) (found : Bool) (units : Units) → AreDoubtsShut units
    → AreDoubtsShut (settled place found units)
settled_shut place found units =
    shut_but place units (settled place found units) (λ q other. settled_elsewhere place q other found units)
    (without ((settled place found units).doubt place) ((settled place found units).is_shut place)
    (settled_none place found units))

unit_shut : (place : Place) (s : State) (found : Bool) (t : State) → SettlesUnit place s found t → AreDoubtsShut s.units
    → AreDoubtsShut t.units
unit_shut place s true t h was =
    subst (λ (x : State). AreDoubtsShut x.units) (sym h.2) (settled_shut place true s.units was)
unit_shut place s false t h was =
    subst (λ (x : State). AreDoubtsShut x.units) (sym h.1) (settled_shut place false s.units was)

-- ---- a request

-- an effect by which a chunk starts
abbrev Starts : Effect → Type 0
Starts Effect.Started = Unit {0}
Starts Effect.Wrote = Unit {0}
Starts effect = ⊥

creates_settled : (view : UnitView) (answer : Answer) (effect : Effect) → Starts effect → Creates view answer effect
    → view.doubt ≡ None
creates_settled view Answer.Already Effect.Nothing starts h = absurd starts
creates_settled view Answer.Done Effect.Made starts h = absurd starts
creates_settled view Answer.Fault Effect.Nothing starts h = absurd starts
creates_settled view _ _ starts h = absurd h

holds_settled : (view : UnitView) (request : Request) (answer : Answer) (effect : Effect) → Starts effect
    → Holds view request answer effect → view.doubt ≡ None
holds_settled view request Answer.NoUnit Effect.Nothing starts h = absurd starts
holds_settled view request Answer.Fault Effect.Nothing starts h = absurd starts
holds_settled view request answer effect starts h = h.0.settled

serves_settled : (view : UnitView) (request : Request) (answer : Answer) (effect : Effect) → Starts effect
    → Serves view request answer effect → view.doubt ≡ None
serves_settled view (Request.Create place) answer effect starts h = creates_settled view answer effect starts h
serves_settled view request answer effect starts h = holds_settled view request answer effect starts h

answers_settled : (view : UnitView) (request : Request) (answer : Answer) (effect : Effect) → Starts effect
    → Answers view request answer effect → view.doubt ≡ None
answers_settled view request Answer.Broken Effect.Nothing starts h = absurd starts
answers_settled view request (Answer.Stale have) Effect.Nothing starts h = absurd starts
answers_settled view request answer effect starts h = serves_settled view request answer effect starts h.1

handled_shut : (place : Place) (request : Request) (effect : Effect) (units : Units)
    → (Starts effect → units.doubt place ≡ None) → AreDoubtsShut units
    → AreDoubtsShut (units_after place request effect units)
handled_shut place request effect units none was =
    shut_but place units (units_after place request effect units)
    (λ q other. after_elsewhere place q other request effect units) (here effect none) was where
      here : (did : Effect) → (Starts did → units.doubt place ≡ None)
          → is_some ((units_after place request did units).doubt place) ≡ true
          → (units_after place request did units).is_shut place ≡ true
      here Effect.Nothing settled = was place
      here Effect.Made settled =
          without ((with_unit place units).doubt place) ((with_unit place units).is_shut place)
          (there_now place None units.doubt)
      here Effect.Started settled = without (units.doubt place) ((started place units).is_shut place) (settled tt)
      here Effect.Wrote settled =
          without ((with_written place (record_of request) (started place units)).doubt place)
          ((with_written place (record_of request) (started place units)).is_shut place)
          (written_doubt place (record_of request) (started place units) ∙ settled tt)
      here Effect.Doubted settled = λ doubtful. there_now place true units.is_shut

pub doubts_shut_last : (shape : VolumeShape) (s : State) (move : Move) (t : State) → Moves shape s move t
    → AreDoubtsShut s.units → AreDoubtsShut t.units
doubts_shut_last shape s (Move.Issue request) t h was = shut_as s t (same_units s t _ h.2 refl) was
doubts_shut_last shape s (Move.Handle request answer effect) t h was =
    subst (λ (x : State). AreDoubtsShut x.units) (sym h.2)
    (handled_shut (place_of request) request effect s.units
    (λ starts. answers_settled (view_at s.broken s.units (place_of request)) request answer effect starts h.1) was)
doubts_shut_last shape s (Move.Hear request answer) t h was = shut_as s t (same_units s t _ h.1 refl) was
doubts_shut_last shape s (Move.SettleManager found) t h was = shut_as s t (settle_units s found t h) was
doubts_shut_last shape s (Move.SettleUnit place found) t h was = unit_shut place s found t h was
doubts_shut_last shape s (Move.Happen event reply) t h was = happen_shut shape s event reply t h was
