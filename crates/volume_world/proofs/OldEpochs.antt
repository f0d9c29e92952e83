-- No entry changes a row of an old unit but by its release, or accepts anything there.
use Rattle.std.proofs.Common.{◌≡◌, ℕ, ◌<◌, ◌⊎◌, inl, inr, Bool, true, false, ◌∷◌, Option, Some, None, refl, sym, ◌∙◌, ap, subst, cond}
use Rattle.std.specs.Prelude.{◌&&◌, ◌==◌}
use Rattle.unit_id.specs.Lists.{IsIn}
use Rattle.unit_id.specs.Place.{Place, is_place}
use Rattle.unit_id.specs.Request.{Request, Answer, Given, place_of}
use Rattle.unit_id.proofs.Bools.{and_left, contrary}
use Rattle.unit_id.proofs.Places.{is_place_gives}
use Rattle.code_mode.specs.VolumeShape.{VolumeShape, IsVolumeShape}
use Rattle.blob_node.specs.Units.{RowState, UnitRecord, Units, is_row_record, with_at, with_row}
use Rattle.blob_node.specs.UnitAnswer.{UnitView, Effect, Answers, view_at, units_after, with_written, writes, is_row_request, settled_at}
use Rattle.volume_entry.specs.Manager.{home_at}
use Rattle.volume_world.specs.State.{State}
use Rattle.volume_world.specs.Move.{Handles, SettlesUnit}
use Rattle.volume_world.specs.Run.{World, Step, Leads}
use Rattle.volume_world.specs.Invariant.{Kept}
use Rattle.volume_world.specs.Laws.{IsBelowCurrent, is_accepting, OldEpochsAreFenced}
use Rattle.volume_world.proofs.Unmoved.{IsUnmoved}
use Rattle.volume_world.proofs.Touched.{IsSameGround, Touches, entry_touches}
use Rattle.volume_world.proofs.SafetyProofs.{old_handled, old_found}

-- a row is written at one place alone
row_or_there : (p : Place) (b : ℕ) (new : Option RowState) (rows : Place → ℕ → Option RowState) (q : Place) (c : ℕ) → (with_row p b new rows q c ≡ rows q c) ⊎ (q ≡ p)
row_or_there p b new rows q c = go (is_place q p && (c == b)) refl where
  go : (test : Bool) → is_place q p && (c == b) ≡ test → (cond test new (rows q c) ≡ rows q c) ⊎ (q ≡ p)
  go true e = inr (is_place_gives q p (and_left (is_place q p) (c == b) e))
  go false e = inl refl

-- only a create makes a unit, where there is none
made_gives : (view : UnitView) (r : Request) (a : Answer) → Answers view r a Effect.Made → view.was_made view.epoch ≡ false
made_gives view (Request.Create p) Answer.Done h = h.1
made_gives view (Request.Create p) a h = absurd h.1
made_gives view (Request.Fence p n) Answer.Done h = absurd h.1.1
made_gives view (Request.Put p b) Answer.Done h = absurd h.1.1
made_gives view (Request.Read p b) Answer.Done h = absurd h.1.1
made_gives view (Request.List p n) Answer.Done h = absurd h.1.1
made_gives view (Request.Copy p b) Answer.Done h = absurd h.1.1
made_gives view (Request.Mark p b) Answer.Done h = absurd h.1.1
made_gives view (Request.Free p b) Answer.Done h = absurd h.1.1
made_gives view (Request.Release p) Answer.Done h = absurd h.1.1
made_gives view r a h = absurd h.1.1

-- the row is as it was, or the unit is released
abbrev pub RowStays : Units → Units → Place → ℕ → Type 0
RowStays old new q b = (new.row q b ≡ old.row q b) ⊎ (new.is_released q ≡ true)

after_made : (shape : VolumeShape) (s : State) (p q : Place) (b : ℕ) → Kept shape s → s.units.is_made p ≡ false → with_at p (λ c. None) s.units.row q b ≡ s.units.row q b
after_made shape s p q b k unmade = go (is_place q p) refl where
  go : (test : Bool) → is_place q p ≡ test → (cond test (λ c. None) (s.units.row q)) b ≡ s.units.row q b
  go true e = sym (k.form.units.unmade_has_no_rows q (ap s.units.is_made (is_place_gives q p e) ∙ unmade) b)
  go false e = refl

after_release : (p q : Place) (b : ℕ) (units : Units) → ((with_at p (λ c. None) units.row q) b ≡ units.row q b) ⊎ (with_at p true units.is_released q ≡ true)
after_release p q b units = go (is_place q p) where
  go : (test : Bool) → ((cond test (λ c. None) (units.row q)) b ≡ units.row q b) ⊎ (cond test true (units.is_released q) ≡ true)
  go true = inr refl
  go false = inl refl

-- a write that is done isn't to an old unit
not_old : (shape : VolumeShape) (s t : State) (r : Request) (a : Answer) (q : Place) (A : Type 0) → Kept shape s → Handles s r a Effect.Wrote t → is_row_request r ≡ true → IsBelowCurrent s q → q ≡ place_of r → A
not_old shape s t r a q A k h row below e = absurd (contrary (writes Effect.Wrote) refl (old_handled shape s t r a Effect.Wrote k h row (subst (IsBelowCurrent s) e below)).0)

after_row : (shape : VolumeShape) (s t : State) (r : Request) (a : Answer) (q : Place) (b c : ℕ) (new : Option RowState) → Kept shape s → Handles s r a Effect.Wrote t → is_row_request r ≡ true → IsBelowCurrent s q
    → with_row (place_of r) c new s.units.row q b ≡ s.units.row q b
after_row shape s t r a q b c new k h row below = elim (row_or_there (place_of r) c new s.units.row q b) [
  | inl same ↦ same
  | inr here ↦ not_old shape s t r a q (with_row (place_of r) c new s.units.row q b ≡ s.units.row q b) k h row below here
]

handled_row : (shape : VolumeShape) (s t : State) (r : Request) (a : Answer) (e : Effect) (q : Place) (b : ℕ) → Kept shape s → Handles s r a e t → IsBelowCurrent s q → RowStays s.units (units_after (place_of r) r e s.units) q b
handled_row shape s t r a Effect.Nothing q b k h below = inl refl
handled_row shape s t r a Effect.Started q b k h below = inl refl
handled_row shape s t r a Effect.Doubted q b k h below = inl refl
handled_row shape s t r a Effect.Made q b k h below = inl (after_made shape s (place_of r) q b k (made_gives (view_at s.broken s.units (place_of r)) r a h.1))
handled_row shape s t (Request.Put p c) a Effect.Wrote q b k h below = inl (after_row shape s t (Request.Put p c) a q b c _ k h refl below)
handled_row shape s t (Request.Copy p c) a Effect.Wrote q b k h below = inl (after_row shape s t (Request.Copy p c) a q b c _ k h refl below)
handled_row shape s t (Request.Mark p c) a Effect.Wrote q b k h below = inl (after_row shape s t (Request.Mark p c) a q b c _ k h refl below)
handled_row shape s t (Request.Free p c) a Effect.Wrote q b k h below = inl (after_row shape s t (Request.Free p c) a q b c _ k h refl below)
handled_row shape s t (Request.Release p) a Effect.Wrote q b k h below = after_release p q b s.units
handled_row shape s t r a Effect.Wrote q b k h below = inl refl

-- a record in doubt that is found
found_row : (shape : VolumeShape) (s t : State) (p q : Place) (b : ℕ) (item : Option UnitRecord) → Kept shape s → SettlesUnit p s true t → s.broken p.disk ≡ false → IsBelowCurrent s q → s.units.doubt p ≡ item
    → RowStays s.units (with_written p item (settled_at p s.units)) q b
found_row shape s t p q b None k h unbroken below e = inl refl
found_row shape s t p q b (Some (UnitRecord.Fence n)) k h unbroken below e = inl refl
found_row shape s t p q b (Some UnitRecord.Release) k h unbroken below e = after_release p q b s.units
found_row shape s t p q b (Some (UnitRecord.Shard c)) k h unbroken below e = elim (row_or_there p c _ s.units.row q b) [
  | inl same ↦ inl same
  | inr here ↦ absurd (contrary (is_row_record (s.units.doubt p)) (ap is_row_record e) (old_found shape s t p k h unbroken (subst (IsBelowCurrent s) here below)))
]
found_row shape s t p q b (Some (UnitRecord.Mark c)) k h unbroken below e = elim (row_or_there p c _ s.units.row q b) [
  | inl same ↦ inl same
  | inr here ↦ absurd (contrary (is_row_record (s.units.doubt p)) (ap is_row_record e) (old_found shape s t p k h unbroken (subst (IsBelowCurrent s) here below)))
]
found_row shape s t p q b (Some (UnitRecord.Free c)) k h unbroken below e = elim (row_or_there p c _ s.units.row q b) [
  | inl same ↦ inl same
  | inr here ↦ absurd (contrary (is_row_record (s.units.doubt p)) (ap is_row_record e) (old_found shape s t p k h unbroken (subst (IsBelowCurrent s) here below)))
]

settled_row : (shape : VolumeShape) (s t : State) (p q : Place) (b : ℕ) (found : Bool) → Kept shape s → SettlesUnit p s found t → s.broken p.disk ≡ false → IsBelowCurrent s q → RowStays s.units t.units q b
settled_row shape s t p q b true k h unbroken below = subst (λ (u : State). RowStays s.units u.units q b) (sym h.2) (found_row shape s t p q b (s.units.doubt p) k h unbroken below refl)
settled_row shape s t p q b false k h unbroken below = inl (ap (λ (u : State). u.units.row q b) h.1)

stays_within : (s t u v : State) (p : Place) (b : ℕ) → IsUnmoved s t → IsUnmoved u v → RowStays t.units u.units p b → RowStays s.units v.units p b
stays_within s t u v p b before after (inl x) = inl (ap (λ row. row p b) after.row ∙ x ∙ ap (λ row. row p b) before.row)
stays_within s t u v p b before after (inr x) = inr (ap (λ released. released p) after.is_released ∙ x)

below_after : (s t : State) (p : Place) → IsSameGround s t → IsBelowCurrent s p → IsBelowCurrent t p
below_after s t p g below = subst (λ homes. p.epoch < (home_at homes p.index).epoch) (sym g.homes) below

entry_rows : (shape : VolumeShape) (w v : World) (step : Step) (p : Place) (b : ℕ) → IsVolumeShape shape → Kept shape w.state → Leads shape w step v → IsBelowCurrent w.state p → RowStays w.state.units v.state.units p b
entry_rows shape w v step p b good k h below = go (entry_touches shape w step v good k h) where
  go : Touches shape w.state v.state → RowStays w.state.units v.state.units p b
  go (inl same) = inl (ap (λ row. row p b) same.row)
  go (inr touch) =
      let there = below_after w.state touch.first p touch.ground below in
      stays_within w.state touch.first touch.last v.state p b touch.ground.units touch.rest (elim touch.touch [
        | inl y ↦ subst (λ (u : State). RowStays touch.first.units u.units p b) (sym y.3.2) (handled_row shape touch.first touch.last y.0 y.1 y.2 p b touch.kept y.3 there)
        | inr y ↦ settled_row shape touch.first touch.last y.0 p b y.1 touch.kept y.2 y.3 there
      ])

settled_given : (p : Place) (s : State) (found : Bool) (t : State) → SettlesUnit p s found t → t.post.given ≡ s.post.given
settled_given p s true t h = ap (λ (u : State). u.post.given) h.2
settled_given p s false t h = ap (λ (u : State). u.post.given) h.1

entry_answers : (shape : VolumeShape) (w v : World) (step : Step) (g : Given) → IsVolumeShape shape → Kept shape w.state → Leads shape w step v
    → IsBelowCurrent w.state (place_of g.request) → is_row_request g.request ≡ true → is_accepting g.answer ≡ true → IsIn g v.state.post.given → IsIn g w.state.post.given
entry_answers shape w v step g good k h below row accepting i = go (entry_touches shape w step v good k h) where
  go : Touches shape w.state v.state → IsIn g w.state.post.given
  go (inl same) = subst (IsIn g) same.given i
  go (inr touch) = subst (IsIn g) touch.ground.units.given (elim touch.touch [
    | inl y ↦ fresh y.0 y.1 y.2 y.3 (subst (IsIn g) (ap (λ (u : State). u.post.given) y.3.2) (subst (IsIn g) touch.rest.given i))
    | inr y ↦ subst (IsIn g) (settled_given y.0 touch.first y.1 touch.last y.2) (subst (IsIn g) touch.rest.given i)
  ]) where
    fresh : (r : Request) (a : Answer) (e : Effect) → Handles touch.first r a e touch.last → IsIn g (record { request = r; answer = a } ∷ touch.first.post.given) → IsIn g touch.first.post.given
    fresh r a e handles (inr j) = j
    fresh r a e handles (inl same) =
        let request = ap (λ (x : Given). x.request) same in
        let answer = ap (λ (x : Given). x.answer) same in
        absurd (contrary (is_accepting g.answer) accepting (ap is_accepting answer ∙ (old_handled shape touch.first touch.last r a e touch.kept handles (ap is_row_request (sym request) ∙ row)
        (subst (λ x. IsBelowCurrent touch.first (place_of x)) request (below_after w.state touch.first (place_of g.request) touch.ground below))).1))

pub old_fenced : OldEpochsAreFenced
old_fenced = record { rows = entry_rows; answers = entry_answers; handled = old_handled; found = old_found }
