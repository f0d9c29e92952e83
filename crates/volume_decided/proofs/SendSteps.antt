-- A request that is sent, and a late item, are decided by the state before them, where no unit is asked unheard and nothing fails.
use Rattle.std.proofs.Common.{◌≡◌, ◌∙◌, sym, ap, subst, refl, ℕ, ◌+◌, min, inl, inr, ◌⊎◌, Bool, true, false, List, [], ◌∷◌, ◌++◌}
use Rattle.unit_id.specs.Request.{Request, Answer, place_of}
use Rattle.code_mode.specs.VolumeShape.{VolumeShape, last_time}
use Rattle.blob_node.specs.declared.fate.Fate.{Fate}
use Rattle.blob_node.specs.declared.fate.Fate.TheVariants as fate
use Rattle.blob_node.specs.UnitAnswer.{Effect, Answers, view_at, units_after}
use Rattle.volume_entry.specs.ManagerStep.{hear}
use Rattle.volume_entry.specs.Reply.{Reply}
use Rattle.volume_world.specs.State.{State}
use Rattle.volume_world.specs.Move.{MovesAll, IsSendable, puts_hear}
use Rattle.volume_world.specs.Run.{World, Late, IsSent, Sends, Flushes, next_fate, moves_of_send, reply_of_send, late_of_send}
use Rattle.volume_decided.specs.Decided.{is_told_at_once, is_no_request}
use Rattle.volume_decided.proofs.UnitAnswers.{is_fine, answers_decided}

-- no fault, and no answer that is a failure
abbrev pub is_well : Reply → Bool
is_well Reply.Fault = false
is_well (Reply.Heard answer) = is_fine answer
is_well reply = true

-- ---- the states behind the moves of a send

abbrev issue_of : Request → State → State
issue_of request s = record s { post = record (s.post) { issued = request ∷ s.post.issued } }

abbrev handle_of : Request → Answer → Effect → State → State
handle_of request a e s = record s {
  units = units_after (place_of request) request e s.units;
  post = record (s.post) { given = record { request = request; answer = a } ∷ s.post.given };
}

abbrev hear_of : Request → Answer → State → State
hear_of request a s = record s { manager = hear request a s.manager; puts = puts_hear request a s.puts }

abbrev slow_of : ℕ → State → State
slow_of time s = record s { time = time }

abbrev Sees : State → Request → Answer → Effect → Type 0
Sees s request a e = Answers (view_at s.broken s.units (place_of request)) request a e

abbrev heard_state : State → Request → Answer → Effect → State
heard_state s request a e = hear_of request a (handle_of request a e (issue_of request s))

abbrev slow_state : State → Request → Answer → Effect → State
slow_state s request a e = hear_of request a (handle_of request a e (slow_of (min (s.time + 10) last_time) (issue_of request s)))

module _ (shape : VolumeShape) (s : State) (request : Request) where
  heard_is : (a : Answer) (e : Effect) (t : State) → MovesAll shape s (moves_of_send fate.Pass s.time request a e) t → Sees s request a e × (t ≡ heard_state s request a e)
  heard_is a e t h = (
    subst (λ x. Sees x request a e) h.1.2 h.2.1.1,
    h.2.2.2 ∙ h.2.2.1.1 ∙ ap (hear_of request a) (h.2.1.2 ∙ ap (handle_of request a e) h.1.2),
  )

  slow_is : (a : Answer) (e : Effect) (t : State) → MovesAll shape s (moves_of_send fate.Slow s.time request a e) t → Sees s request a e × (t ≡ slow_state s request a e)
  slow_is a e t h = let clock = h.2.1.1 ∙ ap (slow_of (min (s.time + 10) last_time)) h.1.2 in (
    subst (λ x. Sees x request a e) clock h.2.2.1.1,
    h.2.2.2.2 ∙ h.2.2.2.1.1 ∙ ap (hear_of request a) (h.2.2.1.2 ∙ ap (handle_of request a e) clock),
  )

  -- one reply, one state, and the same comes late
  abbrev AreAlike : Fate → Answer → Answer → State → State → Type 0
  AreAlike f a b t u = (reply_of_send f a ≡ reply_of_send f b) × (t ≡ u) × (late_of_send f request a ≡ late_of_send f request b)

  moves_decided : (f : Fate) (a b : Answer) (e g : Effect) (t u : State) → is_told_at_once f ≡ true → MovesAll shape s (moves_of_send f s.time request a e) t → MovesAll shape s (moves_of_send f s.time request b g) u
      → is_well (reply_of_send f a) ≡ true → is_well (reply_of_send f b) ≡ true → AreAlike f a b t u
  moves_decided fate.Pass a b e g t u told h k p q =
      let x = heard_is a e t h in let y = heard_is b g u k in
      let same = answers_decided (view_at s.broken s.units (place_of request)) request a b e g x.0 y.0 p q in
      (ap (λ (z : Answer × Effect). Reply.Heard z.0) same, x.1 ∙ ap (λ (z : Answer × Effect). heard_state s request z.0 z.1) same ∙ sym y.1, refl)
  moves_decided fate.Again a b e g t u told h k p q =
      let x = heard_is a e t h in let y = heard_is b g u k in
      let same = answers_decided (view_at s.broken s.units (place_of request)) request a b e g x.0 y.0 p q in
      (ap (λ (z : Answer × Effect). Reply.Heard z.0) same, x.1 ∙ ap (λ (z : Answer × Effect). heard_state s request z.0 z.1) same ∙ sym y.1, refl)
  moves_decided fate.Slow a b e g t u told h k p q =
      let x = slow_is a e t h in let y = slow_is b g u k in
      let same = answers_decided (view_at s.broken s.units (place_of request)) request a b e g x.0 y.0 p q in
      (ap (λ (z : Answer × Effect). Reply.Heard z.0) same, x.1 ∙ ap (λ (z : Answer × Effect). slow_state s request z.0 z.1) same ∙ sym y.1, refl)
  moves_decided fate.Lose a b e g t u told h k p q = (refl, h.2 ∙ h.1.2 ∙ sym (k.2 ∙ k.1.2), refl)
  moves_decided fate.LateRequest a b e g t u told h k p q = (refl, h.2 ∙ h.1.2 ∙ sym (k.2 ∙ k.1.2), refl)
  moves_decided fate.LoseReply a b e g t u told h k p q = cc
  moves_decided fate.LateReply a b e g t u told h k p q = cc

-- ---- a send

sent_decided : (shape : VolumeShape) (w : World) (request : Request) (r q : Reply) (v u : World) → is_told_at_once (next_fate w.planned (place_of request).disk) ≡ true
    → IsSent shape w request r v → IsSent shape w request q u → is_well r ≡ true → is_well q ≡ true → (r ≡ q) × (v ≡ u)
sent_decided shape w request r q v u told x y p o =
    let f = next_fate w.planned (place_of request).disk in
    let alike = moves_decided shape w.state request f x.answer y.answer x.effect y.effect v.state u.state told x.moves y.moves
    (ap is_well (sym x.told) ∙ p) (ap is_well (sym y.told) ∙ o) in
    let late : v.late ≡ u.late = x.late ∙ ap (λ l. w.late ++ l) alike.2 ∙ sym y.late in
    let planned : v.planned ≡ u.planned = x.planned ∙ sym y.planned in
    (x.told ∙ alike.0 ∙ sym y.told, λ i. record { state = alike.1 i; planned = planned i; late = late i })

abbrev pub SendsSo : VolumeShape → World → Request → Reply → World → Type 0
SendsSo shape w request r v = ((r ≡ Reply.Barred) × (IsSendable shape.total w.state.puts.status w.state.manager request → ⊥) × (v ≡ w)) ⊎ IsSent shape w request r v

pub sends_so : (shape : VolumeShape) (w : World) (request : Request) (r : Reply) (v : World) → Sends shape w request r v → SendsSo shape w request r v
sends_so shape w request Reply.Barred v h = inl (refl, h.1, h.2)
sends_so shape w request r v h = inr h

pub sends_decided : (shape : VolumeShape) (w : World) (request : Request) (r q : Reply) (v u : World) → is_told_at_once (next_fate w.planned (place_of request).disk) ≡ true
    → Sends shape w request r v → Sends shape w request q u → is_well r ≡ true → is_well q ≡ true → (r ≡ q) × (v ≡ u)
sends_decided shape w request r q v u told h k p o = go (sends_so shape w request r v h) (sends_so shape w request q u k) where
  go : SendsSo shape w request r v → SendsSo shape w request q u → (r ≡ q) × (v ≡ u)
  go (inl x) (inl y) = (x.0 ∙ sym y.0, x.2 ∙ sym y.2)
  go (inl x) (inr y) = absurd (x.1 y.sendable)
  go (inr x) (inl y) = absurd (y.1 x.sendable)
  go (inr x) (inr y) = sent_decided shape w request r q v u told x y p o

-- ---- what a read gives

abbrev pub is_read : Request → Bool
is_read (Request.Read place bid) = true
is_read request = false

pub live_read : (shape : VolumeShape) (w : World) (request : Request) (v : World) → is_told_at_once (next_fate w.planned (place_of request).disk) ≡ true → Sends shape w request (Reply.Heard Answer.Live) v
    → is_read request ≡ true
live_read shape w request v told h = go (next_fate w.planned (place_of request).disk) told h.moves h.told where
  answered : (q : Request) (e : Effect) → Sees w.state q Answer.Live e → is_read q ≡ true
  answered (Request.Read place bid) e a = refl
  answered (Request.Create place) e a = absurd a.1
  answered (Request.Fence place number) e a = absurd a.1.1
  answered (Request.Put place bid) e a = absurd a.1.1
  answered (Request.List place number) e a = absurd a.1.1
  answered (Request.Copy place bid) e a = absurd a.1.1
  answered (Request.Mark place bid) e a = absurd a.1.1
  answered (Request.Free place bid) e a = absurd a.1.1
  answered (Request.Release place) e a = absurd a.1.1

  unheard : Reply → Answer → Answer
  unheard (Reply.Heard a) other = a
  unheard reply other = other

  same : (a : Answer) → Reply.Heard Answer.Live ≡ Reply.Heard a → Answer.Live ≡ a
  same a is = ap (λ r. unheard r Answer.Done) is

  go : (f : Fate) → is_told_at_once f ≡ true → MovesAll shape w.state (moves_of_send f w.state.time request h.answer h.effect) v.state → Reply.Heard Answer.Live ≡ reply_of_send f h.answer → is_read request ≡ true
  go fate.Pass at moves is = answered request h.effect (subst (λ a. Sees w.state request a h.effect) (sym (same h.answer is)) (heard_is shape w.state request h.answer h.effect v.state moves).0)
  go fate.Again at moves is = answered request h.effect (subst (λ a. Sees w.state request a h.effect) (sym (same h.answer is)) (heard_is shape w.state request h.answer h.effect v.state moves).0)
  go fate.Slow at moves is = answered request h.effect (subst (λ a. Sees w.state request a h.effect) (sym (same h.answer is)) (slow_is shape w.state request h.answer h.effect v.state moves).0)
  go fate.Lose at moves is = cc
  go fate.LateRequest at moves is = cc
  go fate.LoseReply at moves is = cc
  go fate.LateReply at moves is = cc

-- ---- late items

pub flushes_decided : (shape : VolumeShape) (w : World) (late : List Late) (r q : Reply) (v u : World) → is_no_request late ≡ true → Flushes shape w late r v → Flushes shape w late q u → (r ≡ q) × (v ≡ u)
flushes_decided shape w [] r q v u free h k = (h.0 ∙ sym k.0, h.1 ∙ sym k.1)
flushes_decided shape w (Late.LateRequest request ∷ rest) r q v u free h k = cc
flushes_decided shape w (Late.LateAnswer request a ∷ rest) r q v u free h k =
    let same : v.state ≡ u.state = h.1.2 ∙ h.1.1.1 ∙ sym (k.1.2 ∙ k.1.1.1) in
    (h.0 ∙ sym k.0, h.2 ∙ ap (λ s. record w { state = s; late = rest }) same ∙ sym k.2)
