-- Lists at a place.
use Rattle.std.proofs.Common.{◌≡◌, ◌∙◌, sym, ap, refl, subst, ℕ, zero, suc, ◌+◌, ◌<◌, ◌≤◌, ◌==◌, ◌⊎◌, true, false, List, [], ◌∷◌, ◌++◌, length, drop, Option, Some, None, arith}
use Rattle.std.specs.Prelude.{slice_get, slice_set}
use Rattle.std.proofs.lemmas.List.{drop_more}
use Rattle.std.proofs.lemmas.Option.{slice_get_within, get_or_from_slice_get}
use Rattle.std.proofs.lemmas.Bool.Decides.{eqb_tells}

pub get_set_same : {X : Type 0} (xs : List X) (i : ℕ) (x y : X) → slice_get xs i ≡ Some y → slice_get (slice_set xs i x) i ≡ Some x
get_set_same [] i x y h = absurd (cc h)
get_set_same (z ∷ xs) zero x y h = refl
get_set_same (z ∷ xs) (suc i) x y h = get_set_same xs i x y h

pub get_set_other : {X : Type 0} (xs : List X) (i j : ℕ) (x : X) → (i ≡ j → ⊥) → slice_get (slice_set xs i x) j ≡ slice_get xs j
get_set_other [] i j x h = refl
get_set_other (z ∷ xs) zero zero x h = absurd (h refl)
get_set_other (z ∷ xs) zero (suc j) x h = refl
get_set_other (z ∷ xs) (suc i) zero x h = refl
get_set_other (z ∷ xs) (suc i) (suc j) x h = get_set_other xs i j x (λ e. h (ap suc e))

-- behind all others there is one more
pub get_last : {X : Type 0} (xs : List X) (x : X) → slice_get (xs ++ x ∷ []) (length xs) ≡ Some x
get_last [] x = refl
get_last (y ∷ xs) x = get_last xs x

pub get_before : {X : Type 0} (xs : List X) (x : X) (i : ℕ) → (length xs ≡ i → ⊥) → slice_get (xs ++ x ∷ []) i ≡ slice_get xs i
get_before [] x zero h = absurd (h refl)
get_before [] x (suc i) h = refl
get_before (y ∷ xs) x zero h = refl
get_before (y ∷ xs) x (suc i) h = get_before xs x i (λ e. h (ap suc e))

pub get_none : {X : Type 0} (xs : List X) → slice_get xs (length xs) ≡ None
get_none [] = refl
get_none (x ∷ xs) = get_none xs

-- what is left from a place on
pub drop_at : {X : Type 0} (xs : List X) (i : ℕ) (x : X) → slice_get xs i ≡ Some x → drop i xs ≡ x ∷ drop (i + 1) xs
drop_at xs i x h = drop_more xs i x (slice_get_within xs i x h) ∙ ap (λ z. z ∷ drop (i + 1) xs) (get_or_from_slice_get xs i x x h)

pub drop_past : {X : Type 0} (xs : List X) (i : ℕ) → slice_get xs i ≡ None → drop i xs ≡ []
drop_past [] zero h = refl
drop_past [] (suc i) h = refl
drop_past (y ∷ xs) zero h = absurd (cc h)
drop_past (y ∷ xs) (suc i) h = drop_past xs i h

-- either two numbers are one, and the test tells, or they aren't
pub tells : (i j : ℕ) → (((i == j) ≡ true) × (i ≡ j)) ⊎ (((i == j) ≡ false) × (i ≡ j → ⊥))
tells i j = eqb_tells i j
