-- A look-up with a new value at one place: what it says there, and elsewhere.
use Rattle.std.proofs.Common.{◌≡◌, ℕ, Bool, true, false, Option, refl, sym, ap, subst, cond}
use Rattle.std.specs.Prelude.{◌&&◌, ◌==◌}
use Rattle.std.proofs.lemmas.Bool.{eqb-true}
use Rattle.unit_id.specs.Place.{Place, is_place}
use Rattle.unit_id.proofs.Bools.{and_left, and_right, and_both, equal_test}
use Rattle.unit_id.proofs.Places.{is_place_gives, is_place_self}
use Rattle.blob_node.specs.Units.{RowState, with_at, with_row}

-- with a new value at one place: a property of it there, and of the others
pub at_one : {A : Type 0} (place : Place) (new : A) (old : Place → A) (P : Place → A → Type 0) → P place new → (q : Place) → P q (old q) → P q (with_at place new old q)
at_one place new old P here q there = go (is_place q place) refl where
  go : (test : Bool) → is_place q place ≡ test → P q (cond test new (old q))
  go true e = subst (λ r. P r new) (sym (is_place_gives q place e)) here
  go false e = there

-- at another place nothing is new
pub elsewhere : {A : Type 0} (place : Place) (new : A) (old : Place → A) (q : Place) → (q ≡ place → ⊥) → with_at place new old q ≡ old q
elsewhere place new old q other = go (is_place q place) refl where
  go : (test : Bool) → is_place q place ≡ test → cond test new (old q) ≡ old q
  go true e = absurd (other (is_place_gives q place e))
  go false e = refl

pub there_now : {A : Type 0} (place : Place) (new : A) (old : Place → A) → with_at place new old place ≡ new
there_now place new old = ap (λ test. cond test new (old place)) (is_place_self place)

-- with a new row at one place, a property of the row there and of the others
pub at_one_row : (place : Place) (bid : ℕ) (new : Option RowState) (old : Place → ℕ → Option RowState) (P : Place → ℕ → Option RowState → Type 0)
    → P place bid new → (p : Place) (b : ℕ) → P p b (old p b) → P p b (with_row place bid new old p b)
at_one_row place bid new old P here p b there = go (is_place p place && (b == bid)) refl where
  go : (test : Bool) → is_place p place && (b == bid) ≡ test → P p b (cond test new (old p b))
  go true e =
      let at = is_place_gives p place (and_left (is_place p place) (b == bid) e) in
      let blob = eqb-true b bid (and_right (is_place p place) (b == bid) e) in
      subst (λ q. P q b new) (sym at) (subst (λ c. P place c new) (sym blob) here)
  go false e = there

-- the row of a blob that was just taken
pub row_here : (place : Place) (bid : ℕ) (new : Option RowState) (old : Place → ℕ → Option RowState) → with_row place bid new old place bid ≡ new
row_here place bid new old =
    ap (λ test. cond test new (old place bid)) (and_both (is_place place place) (bid == bid) (is_place_self place) (equal_test bid bid refl))
