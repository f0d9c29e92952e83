-- Acknowledgements are exact, and last.
use Rattle.std.proofs.Common.{◌≡◌, ℕ, inl, inr, Bool, true, false, List, [], ◌∷◌, refl, sym, ◌∙◌, ap, subst, cond, arith}
use Rattle.std.specs.Prelude.{◌==◌}
use Rattle.std.proofs.lemmas.Bool.{eqb-true}
use Rattle.unit_id.specs.Lists.{IsIn}
use Rattle.unit_id.specs.Request.{place_of}
use Rattle.unit_id.proofs.Bools.{contrary, either}
use Rattle.code_mode.specs.VolumeShape.{VolumeShape}
use Rattle.volume_entry.specs.Reply.{Reply}
use Rattle.volume_world.specs.Event.{Event}
use Rattle.volume_world.specs.State.{Status, State}
use Rattle.volume_world.specs.BlobStatus.{is_begun, is_open, is_acked}
use Rattle.volume_world.specs.Move.{Move, Moves, MovesAll, Ends}
use Rattle.volume_world.specs.Run.{Late, World, Step, Flushes, Does, Leads, moves_of_send, next_fate}
use Rattle.volume_world.specs.Laws.{IsEarned, AcksAreExact}
use Rattle.volume_world.proofs.PutsStay.{IsOpened, IsEnded, puts_cases}
use Rattle.volume_world.proofs.EntryMoves.{IsLasting, refused_same, sends_only_tick}

acked_begun : (status : Status) → is_acked status ≡ true → is_begun status ≡ true
acked_begun Status.NotBegun h = cc
acked_begun Status.Open h = refl
acked_begun Status.Acked h = refl
acked_begun Status.Failed h = refl

open_unacked : (status : Status) → is_open status ≡ true → is_acked status ≡ false
open_unacked Status.NotBegun h = refl
open_unacked Status.Open h = refl
open_unacked Status.Acked h = cc
open_unacked Status.Failed h = refl

-- an acknowledged put stays so
pub acked_lasts : (shape : VolumeShape) (b : ℕ) → IsLasting shape (λ s. is_acked (s.puts.status b) ≡ true)
acked_lasts shape b s move t h acked = elim (puts_cases shape s move t h) [
  | inl same ↦ ap (λ puts. is_acked (puts.status b)) same ∙ acked
  | inr (inl heard) ↦ ap (λ status. is_acked (status b)) heard.0 ∙ acked
  | inr (inr (inl new)) ↦ ap (λ puts. is_acked (puts.status b)) new.puts ∙ opened new (b == new.bid) refl
  | inr (inr (inr old)) ↦ ap (λ puts. is_acked (puts.status b)) old.puts ∙ over old (b == old.bid) refl
] where
  opened : (new : IsOpened s t) (test : Bool) → b == new.bid ≡ test → is_acked (cond test Status.Open (s.puts.status b)) ≡ true
  opened new true e = absurd (contrary (is_begun (s.puts.status b)) (acked_begun (s.puts.status b) acked) (ap (λ c. is_begun (s.puts.status c)) (eqb-true b new.bid e) ∙ new.fresh))
  opened new false e = acked

  over : (old : IsEnded s move t) (test : Bool) → b == old.bid ≡ test → is_acked (cond test old.status (s.puts.status b)) ≡ true
  over old true e = absurd (contrary (is_acked (s.puts.status b)) acked (ap (λ c. is_acked (s.puts.status c)) (eqb-true b old.bid e) ∙ open_unacked (s.puts.status old.bid) old.was_open))
  over old false e = acked

-- the move that acknowledges
abbrev Acks : ℕ → Move → Type 0
Acks b move = (accepted : ℕ) × (move ≡ Move.Happen (Event.End b) (Reply.Acked accepted))

newly_acked : (shape : VolumeShape) (b : ℕ) (s : State) (move : Move) (t : State) → Moves shape s move t → is_acked (s.puts.status b) ≡ false → is_acked (t.puts.status b) ≡ true → Acks b move
newly_acked shape b s move t h before now = elim (puts_cases shape s move t h) [
  | inl same ↦ absurd (contrary (is_acked (s.puts.status b)) (ap (λ puts. is_acked (puts.status b)) (sym same) ∙ now) before)
  | inr (inl heard) ↦ absurd (contrary (is_acked (s.puts.status b)) (ap (λ status. is_acked (status b)) (sym heard.0) ∙ now) before)
  | inr (inr (inl new)) ↦ opened new (b == new.bid) (ap (λ puts. is_acked (puts.status b)) (sym new.puts) ∙ now)
  | inr (inr (inr old)) ↦ over old (b == old.bid) refl (ap (λ puts. is_acked (puts.status b)) (sym old.puts) ∙ now)
] where
  opened : (new : IsOpened s t) (test : Bool) → is_acked (cond test Status.Open (s.puts.status b)) ≡ true → Acks b move
  opened new true x = cc
  opened new false x = absurd (contrary (is_acked (s.puts.status b)) x before)

  over : (old : IsEnded s move t) (test : Bool) → b == old.bid ≡ test → is_acked (cond test old.status (s.puts.status b)) ≡ true → Acks b move
  over old true e x = let acks = old.acks x in (acks.0, acks.1 ∙ ap (λ c. Move.Happen (Event.End c) (Reply.Acked acks.0)) (sym (eqb-true b old.bid e)))
  over old false e x = absurd (contrary (is_acked (s.puts.status b)) x before)

newly_in : (shape : VolumeShape) (b : ℕ) (s : State) (moves : List Move) (t : State) → MovesAll shape s moves t → is_acked (s.puts.status b) ≡ false → is_acked (t.puts.status b) ≡ true
    → (accepted : ℕ) × IsIn (Move.Happen (Event.End b) (Reply.Acked accepted)) moves
newly_in shape b s [] t h before now = absurd (contrary (is_acked (s.puts.status b)) (ap (λ (x : State). is_acked (x.puts.status b)) (sym h) ∙ now) before)
newly_in shape b s (move ∷ moves) t h before now = elim (either (is_acked (h.0.puts.status b))) [
  | inl acked ↦ let acks = newly_acked shape b s move h.0 h.1 before acked in (acks.0, inl (sym acks.1))
  | inr unacked ↦ let later = newly_in shape b h.0 moves t h.2 unacked now in (later.0, inr later.1)
]

-- the entry that acknowledges
abbrev Entered : ℕ → Event → Reply → Type 0
Entered b event reply = (accepted : ℕ) × (event ≡ Event.End b) × (reply ≡ Reply.Acked accepted)

same_world : (b : ℕ) (w v : World) (A : Type 0) → v ≡ w → is_acked (w.state.puts.status b) ≡ false → is_acked (v.state.puts.status b) ≡ true → A
same_world b w v A e before now = absurd (contrary (is_acked (w.state.puts.status b)) (ap (λ (x : World). is_acked (x.state.puts.status b)) (sym e) ∙ now) before)

flush_enters : (shape : VolumeShape) (b : ℕ) (w : World) (late : List Late) (event : Event) (reply : Reply) (v : World) → Flushes shape w late reply v
    → is_acked (w.state.puts.status b) ≡ false → is_acked (v.state.puts.status b) ≡ true → Entered b event reply
flush_enters shape b w [] event reply v h before now = same_world b w v (Entered b event reply) h.1 before now
flush_enters shape b w (Late.LateRequest r ∷ rest) event reply v h before now =
    let found = newly_in shape b w.state (Move.Handle r h.1.0 h.1.1 ∷ []) v.state h.1.2 before now in elim found.1 [ inl x ↦ cc | inr x ↦ absurd x ]
flush_enters shape b w (Late.LateAnswer r a ∷ rest) event reply v h before now =
    let found = newly_in shape b w.state (Move.Hear r a ∷ []) v.state h.1 before now in elim found.1 [ inl x ↦ cc | inr x ↦ absurd x ]

happened : (b n : ℕ) (event : Event) (reply : Reply) → IsIn (Move.Happen (Event.End b) (Reply.Acked n)) (Move.Happen event reply ∷ []) → Entered b event reply
happened b n event reply (inl e) = (n, cc, cc)
happened b n event reply (inr x) = absurd x

does_enter : (shape : VolumeShape) (b : ℕ) (w : World) (event : Event) (reply : Reply) (v : World) → Does shape w event reply v → is_acked (w.state.puts.status b) ≡ false → is_acked (v.state.puts.status b) ≡ true
    → Entered b event reply
does_enter shape b w (Event.Plan disk f count) reply v h before now =
    absurd (contrary (is_acked (w.state.puts.status b)) (ap (λ (x : World). is_acked (x.state.puts.status b)) (sym h.1) ∙ now) before)
does_enter shape b w (Event.Send r) Reply.Barred v h before now = same_world b w v (Entered b (Event.Send r) Reply.Barred) h.2 before now
does_enter shape b w (Event.Send r) reply v h before now =
    let f = next_fate w.planned (place_of r).disk in
    let found = newly_in shape b w.state (moves_of_send f w.state.time r h.answer h.effect) v.state h.moves before now in
    let tick = sends_only_tick f w.state.time r h.answer h.effect (Event.End b) (Reply.Acked found.0) found.1 in cc
does_enter shape b w Event.FlushOne reply v h before now = flush_enters shape b w w.late Event.FlushOne reply v h.1 before now
does_enter shape b w (Event.Settle disk is_found) reply v h before now = elim h.1.0 [
  | inl manager ↦ (let found = newly_in shape b w.state (Move.SettleManager is_found ∷ []) v.state manager.1 before now in elim found.1 [ inl x ↦ cc | inr x ↦ absurd x ])
  | inr unit ↦ (let found = newly_in shape b w.state (Move.SettleUnit unit.1.place is_found ∷ []) v.state (v.state, unit.1.settles, refl) before now in elim found.1 [ inl x ↦ cc | inr x ↦ absurd x ])
]
does_enter shape b w event reply v h before now = let found = newly_in shape b w.state (Move.Happen event reply ∷ []) v.state h.0 before now in happened b found.0 event reply found.1

only_end_acks : (shape : VolumeShape) (w v : World) (step : Step) (b : ℕ) → Leads shape w step v → is_acked (w.state.puts.status b) ≡ false → is_acked (v.state.puts.status b) ≡ true
    → (accepted : ℕ) × (step ≡ record { event = Event.End b; reply = Reply.Acked accepted })
only_end_acks shape w v step b (inl h) before now =
    let entered = does_enter shape b w step.event step.reply v h before now in (entered.0, λ i. record { event = entered.1 i; reply = entered.2 i })
only_end_acks shape w v step b (inr h) before now = same_world b w v _ (refused_same w step.event step.reply v h) before now

earned : (shape : VolumeShape) (s u : State) (reply : Reply) (b n : ℕ) → Ends shape b s reply u → reply ≡ Reply.Acked n → IsEarned shape s b n
earned shape s u reply b n h e = let acked = subst (λ r. Ends shape b s r u) e h in record { opened = acked.0; in_time = acked.1; count = acked.2; enough = acked.3 }

acks_earned : (shape : VolumeShape) (s u : State) (reply : Reply) (b n : ℕ) → Ends shape b s reply u → IsEarned shape s b n → reply ≡ Reply.Acked n
acks_earned shape s u Reply.NotOpen b n h e = absurd (contrary (is_open (s.puts.status b)) e.opened h.0)
acks_earned shape s u (Reply.LeaseOver end time) b n h e = let x = h.1 in let y = h.2 in let z = h.3 in let in_time = e.in_time in absurd (omega (arith, x, y, z, in_time))
acks_earned shape s u (Reply.Quorum m) b n h e = let x = h.2 in let y = h.3 in let c = e.count in let q = e.enough in absurd (omega (arith, x, y, c, q))
acks_earned shape s u (Reply.Acked m) b n h e = ap Reply.Acked (h.2 ∙ sym e.count)
acks_earned shape s u reply b n h e = absurd h

ends_of : (shape : VolumeShape) (w v : World) (reply : Reply) (b : ℕ) → w.state.manager.is_shut ≡ false → Leads shape w (record { event = Event.End b; reply = reply }) v → (u : State) × Ends shape b w.state reply u
ends_of shape w v reply b started (inl h) = (h.0.0, h.0.1.1)
ends_of shape w v reply b started (inr h) = absurd (contrary w.state.manager.is_shut h.0 started)

pub acks_are_exact : AcksAreExact
acks_are_exact = record {
  only = only_end_acks;
  exactly = λ shape w v reply b n started h. let ends = ends_of shape w v reply b started h in (earned shape w.state ends.0 reply b n ends.1, acks_earned shape w.state ends.0 reply b n ends.1);
  backed = λ shape s b n i k e h. k.leases.acceptance_answered b i e.opened e.in_time h;
  current = λ shape s b n g k e i h. k.leases.taken_by_current b e.opened e.in_time g i h;
}
