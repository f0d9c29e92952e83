-- What a run says of a blob, its last state has; so what was acknowledged can be read.
use Rattle.std.proofs.Common.{◌≡◌, ℕ, inl, inr, Bool, true, false, List, [], ◌∷◌, Some, refl, sym, ◌∙◌, ap, subst, cond, not, is_some, nat_lt}
use Rattle.std.specs.Prelude.{◌==◌, nat_lt}
use Rattle.unit_id.specs.Lists.{IsIn, is_in, first_that_holds}
use Rattle.unit_id.specs.Request.{place_of}
use Rattle.unit_id.proofs.Bools.{or_left, equal_test}
use Rattle.code_mode.specs.VolumeShape.{VolumeShape}
use Rattle.volume_entry.specs.Manager.{Manager}
use Rattle.volume_entry.specs.Reply.{Reply}
use Rattle.volume_entry.specs.ManagerStep.{Commits, task_of, mark_count}
use Rattle.volume_world.specs.Event.{Event}
use Rattle.volume_world.specs.State.{State, Status}
use Rattle.volume_world.specs.BlobStatus.{is_begun, is_acked}
use Rattle.volume_world.specs.BlobHistory.{IsAcked, IsCommitted, IsUndeleted}
use Rattle.volume_world.specs.Move.{Move, MovesAll, Ends, Begins}
use Rattle.volume_world.specs.Run.{Late, World, Step, Flushes, Does, Leads, IsLegalRun, moves_of_send, next_fate}
use Rattle.volume_world.specs.Laws.{RunsAreBorneOut, RunsStayReadable}
use Rattle.volume_world.proofs.PutsStay.{move_stay}
use Rattle.volume_world.proofs.EntryMoves.{IsLasting, run_lasts, refused_same, sends_only_tick}
use Rattle.volume_world.proofs.AckProofs.{acked_lasts}
use Rattle.volume_world.proofs.DeletesStay.{IsUnasked, committed_lasts, unasked_lasts}
use Rattle.volume_world.proofs.LawProofs.{starts_kept, runs_keep, is_readable, is_unreadable}
use Rattle.volume_world.specs.Invariant.{Kept}
use Rattle.unit_id.specs.Place.{Location}

-- after an entry of the run a property holds that lasts
from_entry : (shape : VolumeShape) (P : State → Type 0) → IsLasting shape P → (entry : Step) → ((w v : World) → Leads shape w entry v → P v.state) → (w : World) (steps : List Step) (v : World)
    → IsLegalRun shape w steps v → IsIn entry steps → P v.state
from_entry shape P keep entry here w [] v h i = absurd i
from_entry shape P keep entry here w (step ∷ steps) v h (inl e) = run_lasts shape P keep h.0 steps v h.2 (here w h.0 (subst (λ x. Leads shape w x h.0) (sym e) h.1))
from_entry shape P keep entry here w (step ∷ steps) v h (inr i) = from_entry shape P keep entry here h.0 steps v h.2 i

end_acks : (shape : VolumeShape) (s t : State) (b n : ℕ) → Ends shape b s (Reply.Acked n) t → is_acked (t.puts.status b) ≡ true
end_acks shape s t b n h = subst (λ (x : State). is_acked (x.puts.status b) ≡ true) (sym h.4) (go (b == b) (equal_test b b refl)) where
  go : (test : Bool) → test ≡ true → is_acked (cond test Status.Acked (s.puts.status b)) ≡ true
  go true e = refl
  go false e = cc

entry_acks : (shape : VolumeShape) (b n : ℕ) (w v : World) → Leads shape w (record { event = Event.End b; reply = Reply.Acked n }) v → is_acked (v.state.puts.status b) ≡ true
entry_acks shape b n w v (inl h) = ap (λ (x : State). is_acked (x.puts.status b)) h.0.2 ∙ end_acks shape w.state h.0.0 b n h.0.1.1
entry_acks shape b n w v (inr h) = let e = h.1 in cc

-- begun, with these bytes
abbrev HasBegun : ℕ → List ℕ → State → Type 0
HasBegun b payload s = (is_begun (s.puts.status b) ≡ true) × (s.puts.payload b ≡ payload)

begun_lasts : (shape : VolumeShape) (b : ℕ) (payload : List ℕ) → IsLasting shape (HasBegun b payload)
begun_lasts shape b payload s move t h begun = let still = move_stay shape s move t h b begun.0 in (still.begun, still.payload ∙ begun.1)

begin_begins : (s t : State) (b : ℕ) (payload : List ℕ) (reply : Reply) → Begins b payload s reply t → (end : ℕ) (homes : List Location) (flags : List Bool) → reply ≡ Reply.Begun end homes flags → HasBegun b payload t
begin_begins s t b payload reply h end homes flags e =
    let begins = subst (λ r. Begins b payload s r t) e h in
    subst (HasBegun b payload) (sym begins.4) (go (b == b) (equal_test b b refl)) where
      go : (test : Bool) → test ≡ true → (is_begun (cond test Status.Open (s.puts.status b)) ≡ true) × (cond test payload (s.puts.payload b) ≡ payload)
      go true e = (refl, refl)
      go false e = cc

entry_begins : (shape : VolumeShape) (b : ℕ) (payload : List ℕ) (end : ℕ) (homes : List Location) (flags : List Bool) (w v : World)
    → Leads shape w (record { event = Event.Begin b payload; reply = Reply.Begun end homes flags }) v → HasBegun b payload v.state
entry_begins shape b payload end homes flags w v (inl h) = subst (HasBegun b payload) (sym h.0.2) (begin_begins w.state h.0.0 b payload (Reply.Begun end homes flags) h.0.1.1.1 end homes flags refl)
entry_begins shape b payload end homes flags w v (inr h) = let e = h.1 in cc

-- a commit that is done, or was done before
commit_done : (shape : VolumeShape) (b : ℕ) (m n : Manager) → Commits shape b m Reply.Done n → is_in b n.committed ≡ true
commit_done shape b m n h = ap (λ (x : Manager). is_in b x.committed) h.1 ∙ or_left (b == b) (is_in b m.committed) (equal_test b b refl)

commit_already : (shape : VolumeShape) (b : ℕ) (m n : Manager) → Commits shape b m Reply.Already n → is_in b n.committed ≡ true
commit_already shape b m n h = ap (λ (x : Manager). is_in b x.committed) h.1 ∙ go (is_in b m.asked) (is_in b m.committed) (is_some m.lock) (nat_lt (mark_count shape.total m.homes m.marks b) shape.sight) h.0 where
  go : (asked done locked few : Bool)
      → first_that_holds ((not asked, Reply.NotAsked) ∷ (done, Reply.Already) ∷ (locked, Reply.Locked (task_of m.lock)) ∷ (few, Reply.TooFewMarks (mark_count shape.total m.homes m.marks b)) ∷ []) ≡ Some Reply.Already → done ≡ true
  go true true locked few e = refl
  go false done locked few e = cc
  go true false true few e = cc
  go true false false true e = cc
  go true false false false e = cc

entry_commits : (shape : VolumeShape) (b : ℕ) (w v : World) → Leads shape w (record { event = Event.Commit b; reply = Reply.Done }) v → is_in b v.state.manager.committed ≡ true
entry_commits shape b w v (inl h) = ap (λ (x : State). is_in b x.manager.committed) h.0.2 ∙ commit_done shape b w.state.manager h.0.0.manager h.0.1.1.1
entry_commits shape b w v (inr h) = let e = h.1 in cc

entry_committed : (shape : VolumeShape) (b : ℕ) (w v : World) → Leads shape w (record { event = Event.Commit b; reply = Reply.Already }) v → is_in b v.state.manager.committed ≡ true
entry_committed shape b w v (inl h) = ap (λ (x : State). is_in b x.manager.committed) h.0.2 ∙ commit_already shape b w.state.manager h.0.0.manager h.0.1.1.1
entry_committed shape b w v (inr h) = let e = h.1 in cc

run_committed : (shape : VolumeShape) (w v : World) (steps : List Step) (b : ℕ) → IsLegalRun shape w steps v → IsCommitted steps b → is_in b v.state.manager.committed ≡ true
run_committed shape w v steps b h (inl i) = from_entry shape (λ s. is_in b s.manager.committed ≡ true) (committed_lasts shape b) _ (entry_commits shape b) w steps v h i
run_committed shape w v steps b h (inr i) = from_entry shape (λ s. is_in b s.manager.committed ≡ true) (committed_lasts shape b) _ (entry_committed shape b) w steps v h i

run_acked : (shape : VolumeShape) (w v : World) (steps : List Step) (b : ℕ) → IsLegalRun shape w steps v → IsAcked steps b → is_acked (v.state.puts.status b) ≡ true
run_acked shape w v steps b h a = from_entry shape (λ s. is_acked (s.puts.status b) ≡ true) (acked_lasts shape b) _ (entry_acks shape b a.accepted) w steps v h a.acked

-- an ask in the moves of an entry is the entry's own
abbrev Asks : ℕ → Reply → Move → Type 0
Asks b reply move = move ≡ Move.Happen (Event.Ask b) reply

-- through moves of which none is an ask but one that was refused
moves_unasked : (shape : VolumeShape) (b : ℕ) (s : State) (moves : List Move) (t : State) → ((move : Move) (reply : Reply) → IsIn move moves → Asks b reply move → reply ≡ Reply.NotBegun) → MovesAll shape s moves t
    → IsUnasked b s.manager → IsUnasked b t.manager
moves_unasked shape b s [] t undeleted h u = subst (λ (x : State). IsUnasked b x.manager) (sym h) u
moves_unasked shape b s (move ∷ moves) t undeleted h u =
    moves_unasked shape b h.0 moves t (λ other reply i. undeleted other reply (inr i)) h.2 (unasked_lasts shape b s move h.0 (λ reply e. undeleted move reply (inl refl) e) h.1 u)

world_unasked : (b : ℕ) (w v : World) → v ≡ w → IsUnasked b w.state.manager → IsUnasked b v.state.manager
world_unasked b w v e u = subst (λ (x : World). IsUnasked b x.state.manager) (sym e) u

flush_unasked : (shape : VolumeShape) (b : ℕ) (w : World) (late : List Late) (reply : Reply) (v : World) → Flushes shape w late reply v → IsUnasked b w.state.manager → IsUnasked b v.state.manager
flush_unasked shape b w [] reply v h u = world_unasked b w v h.1 u
flush_unasked shape b w (Late.LateRequest r ∷ rest) reply v h u =
    moves_unasked shape b w.state (Move.Handle r h.1.0 h.1.1 ∷ []) v.state (λ move said i e. elim i [ inl y ↦ cc | inr y ↦ absurd y ]) h.1.2 u
flush_unasked shape b w (Late.LateAnswer r a ∷ rest) reply v h u =
    moves_unasked shape b w.state (Move.Hear r a ∷ []) v.state (λ move said i e. elim i [ inl y ↦ cc | inr y ↦ absurd y ]) h.1 u

does_unasked : (shape : VolumeShape) (b : ℕ) (w : World) (event : Event) (reply : Reply) (v : World) → (event ≡ Event.Ask b → reply ≡ Reply.NotBegun) → Does shape w event reply v
    → IsUnasked b w.state.manager → IsUnasked b v.state.manager
does_unasked shape b w (Event.Plan disk f count) reply v undeleted h u = subst (λ (x : World). IsUnasked b x.state.manager) (sym h.1) u
does_unasked shape b w (Event.Send r) Reply.Barred v undeleted h u = world_unasked b w v h.2 u
does_unasked shape b w (Event.Send r) reply v undeleted h u =
    let f = next_fate w.planned (place_of r).disk in
    moves_unasked shape b w.state (moves_of_send f w.state.time r h.answer h.effect) v.state (λ move said i e. let tick = sends_only_tick f w.state.time r h.answer h.effect (Event.Ask b) said (subst (λ m. IsIn m (moves_of_send f w.state.time r h.answer h.effect)) e i) in cc) h.moves u
does_unasked shape b w Event.FlushOne reply v undeleted h u = flush_unasked shape b w w.late reply v h.1 u
does_unasked shape b w (Event.Settle disk is_found) reply v undeleted h u = elim h.1.0 [
  | inl manager ↦ moves_unasked shape b w.state (Move.SettleManager is_found ∷ []) v.state (λ move said i e. elim i [ inl y ↦ cc | inr y ↦ absurd y ]) manager.1 u
  | inr unit ↦ moves_unasked shape b w.state (Move.SettleUnit unit.1.place is_found ∷ []) v.state (λ move said i e. elim i [ inl y ↦ cc | inr y ↦ absurd y ]) (v.state, unit.1.settles, refl) u
]
does_unasked shape b w event reply v undeleted h u =
    moves_unasked shape b w.state (Move.Happen event reply ∷ []) v.state (λ move said i e. elim i [ inl y ↦ same said (sym e ∙ y) | inr y ↦ absurd y ]) h.0 u where
      same : (said : Reply) → Move.Happen (Event.Ask b) said ≡ Move.Happen event reply → said ≡ Reply.NotBegun
      same said e =
          let ask : event ≡ Event.Ask b = cc in
          let told : said ≡ reply = cc in
          told ∙ undeleted ask

entry_unasked : (shape : VolumeShape) (b : ℕ) (w : World) (step : Step) (v : World) → (step.event ≡ Event.Ask b → step.reply ≡ Reply.NotBegun) → Leads shape w step v → IsUnasked b w.state.manager → IsUnasked b v.state.manager
entry_unasked shape b w step v undeleted (inl h) u = does_unasked shape b w step.event step.reply v undeleted h u
entry_unasked shape b w step v undeleted (inr h) u = world_unasked b w v (refused_same w step.event step.reply v h) u

run_unasked : (shape : VolumeShape) (b : ℕ) (w : World) (steps : List Step) (v : World) → IsUndeleted steps b → IsLegalRun shape w steps v → IsUnasked b w.state.manager → IsUnasked b v.state.manager
run_unasked shape b w [] v undeleted h u = world_unasked b w v h u
run_unasked shape b w (step ∷ steps) v undeleted h u =
    run_unasked shape b h.0 steps v (λ reply i. undeleted reply (inr i)) h.2 (entry_unasked shape b w step h.0 (λ e. undeleted step.reply (inl (named (sym e)))) h.1 u) where
      named : Event.Ask b ≡ step.event → record { event = Event.Ask b; reply = step.reply } ≡ step
      named e = λ i. record { event = e i; reply = step.reply }

pub runs_are_borne_out : RunsAreBorneOut
runs_are_borne_out = record {
  begun = λ shape w v steps b payload h begun. from_entry shape (HasBegun b payload) (begun_lasts shape b payload) _ (entry_begins shape b payload begun.end begun.homes begun.flags) w steps v h begun.begun;
  acked = run_acked;
  committed = run_committed;
  undeleted = λ shape w v steps b unasked undoubted h undeleted. (run_unasked shape b w steps v undeleted h (record { unasked = unasked; undoubted = undoubted })).unasked;
}

pub runs_stay_readable : RunsStayReadable
runs_stay_readable = record {
  acked = λ shape homes is_made w v steps b chosen good first made start h acked undeleted unbroken enough.
      let kept = subst (Kept shape) (sym start) (starts_kept shape homes is_made first made) in
      let later = runs_keep shape w v steps good kept h in
      let unasked : IsUnasked b w.state.manager = subst (λ (x : State). IsUnasked b x.manager) (sym start) (record { unasked = refl; undoubted = λ e. cc }) in
      is_readable shape v.state chosen b good later (record { acked = run_acked shape w v steps b h acked; unasked = (run_unasked shape b w steps v undeleted h unasked).unasked }) unbroken enough;
  committed = λ shape homes is_made w v steps b good first made start h committed.
      let kept = subst (Kept shape) (sym start) (starts_kept shape homes is_made first made) in
      is_unreadable shape v.state b good (runs_keep shape w v steps good kept h) (run_committed shape w v steps b h committed);
}
