-- Weights by the products of differences.
use Rattle.std.proofs.Common.{◌≡◌, ◌≢◌, ℕ, zero, suc, subst, ◌||◌, ◌+◌, ◌<◌, ◌≤◌, List, [], ◌∷◌, ◌++◌, length, get_or, take, drop, map, bit_xor, refl, sym, ◌∙◌, ap, arith, inl, inr, Bool, true, false, cond}
use Rattle.std.specs.Prelude.{◌==◌}
use Rattle.std.specs.List.{list_any}
use Rattle.std.proofs.lemmas.Bool.{eqb-true, eq-eqb, cases_eq}
use Rattle.std.proofs.lemmas.List.{drop_more, drop_all, get_or-map, map_more}
use Rattle.gf256.specs.Field.{product, inverse_of}
use Rattle.gf256.proofs.Xor.{xor_byte}
use Rattle.gf256.proofs.Products.{product-below, product_comm, product_assoc, product-one_left, product-one_right, product_swap}
use Rattle.gf256.proofs.Inverses.{same_inverse, inverse_of-below, product-inverse_of, zero_from_product}
use Rattle.rs_code.specs.ShardValue.{quotient, weight}
use Rattle.rs_code.specs.Differences.{differences, IsAscendingFrom, IsApartFrom}
use Rattle.rs_code.proofs.Weights.{weight_same, weight_other}
use Rattle.rs_code.proofs.Polynomials.{AreBytes, nonzero_xor}
use Rattle.rs_code.proofs.Lagrange.{IsAmong}

-- ---- one place at a time
differences_same : (z : ℕ) (zs : List ℕ) (x r : ℕ) → z ≡ x → differences (z ∷ zs) x r ≡ differences zs x r
differences_same z zs x r e = ap (λ t. cond t (differences zs x r) (product (bit_xor r z) (differences zs x r))) (eq-eqb z x e)

differences_other : (z : ℕ) (zs : List ℕ) (x r : ℕ) → z ≢ x → differences (z ∷ zs) x r ≡ product (bit_xor r z) (differences zs x r)
differences_other z zs x r ne = go (z == x) refl
  where
    go : (t : Bool) → (z == x) ≡ t → cond t (differences zs x r) (product (bit_xor r z) (differences zs x r)) ≡ product (bit_xor r z) (differences zs x r)
    go true e = absurd (ne (eqb-true z x e))
    go false e = refl

pub differences-below : (zs : List ℕ) (x r : ℕ) → differences zs x r < 256
differences-below [] x r = omega arith
differences-below (z ∷ zs) x r = go (z == x) (differences-below zs x r)
  where
    go : (t : Bool) → differences zs x r < 256 → cond t (differences zs x r) (product (bit_xor r z) (differences zs x r)) < 256
    go true h = h
    go false h = product-below (bit_xor r z) (differences zs x r)

-- ---- a loop over the places
pub differences_step_same : (places : List ℕ) (i x r p w : ℕ) → i < length places → get_or places i 0 ≡ x → product p (differences (drop i places) x r) ≡ w → product p (differences (drop (i + 1) places) x r) ≡ w
differences_step_same places i x r p w h e whole =
    ap (product p) (sym (ap (λ zs. differences zs x r) (drop_more places i 0 h) ∙ differences_same (get_or places i 0) (drop (i + 1) places) x r e)) ∙ whole

pub differences_step_other : (places : List ℕ) (i x r p w : ℕ) → i < length places → get_or places i 0 ≢ x → product p (differences (drop i places) x r) ≡ w
    → product (product p (bit_xor r (get_or places i 0))) (differences (drop (i + 1) places) x r) ≡ w
differences_step_other places i x r p w h ne whole =
    product_assoc p (bit_xor r (get_or places i 0)) (differences (drop (i + 1) places) x r)
    ∙ ap (product p) (sym (ap (λ zs. differences zs x r) (drop_more places i 0 h) ∙ differences_other (get_or places i 0) (drop (i + 1) places) x r ne))
    ∙ whole

pub differences_end : (places : List ℕ) (i x r p w : ℕ) → length places ≤ i → p < 256 → product p (differences (drop i places) x r) ≡ w → p ≡ w
differences_end places i x r p w h byte whole =
    sym (product-one_right p byte) ∙ ap (λ zs. product p (differences zs x r)) (sym (drop_all i places h)) ∙ whole

-- ---- the product of all differences
all_differences : List ℕ → ℕ → ℕ
all_differences [] r = 1
all_differences (z ∷ zs) r = product (bit_xor r z) (all_differences zs r)

none_is_left_out : (zs : List ℕ) (x r : ℕ) → IsApartFrom x zs → differences zs x r ≡ all_differences zs r
unfolding all_differences
none_is_left_out [] x r apart = refl
none_is_left_out (z ∷ zs) x r apart = differences_other z zs x r apart.0 ∙ ap (product (bit_xor r z)) (none_is_left_out zs x r apart.1)

above_is_apart : (zs : List ℕ) (x n : ℕ) → x < n → IsAscendingFrom n zs → IsApartFrom x zs
above_is_apart [] x n lt up = tt
above_is_apart (z ∷ zs) x n lt up = (λ e. absurd (omega (arith, e, up.0, lt)), above_is_apart zs x (z + 1) (omega (arith, up.0, lt)) up.1)

one_is_left_out : (zs : List ℕ) (n x r : ℕ) → IsAscendingFrom n zs → IsAmong x zs → all_differences zs r ≡ product (bit_xor r x) (differences zs x r)
unfolding all_differences
one_is_left_out [] n x r up among = absurd among
one_is_left_out (z ∷ zs) n x r up among = step (λ later. one_is_left_out zs (z + 1) x r up.1 later)
  where
    here : z ≡ x → all_differences (z ∷ zs) r ≡ product (bit_xor r x) (differences (z ∷ zs) x r)
    here e =
        let apart : IsApartFrom x zs = above_is_apart zs x (z + 1) (omega (arith, e)) up.1 in
        ap (λ y. product (bit_xor r y) (all_differences zs r)) e
        ∙ ap (product (bit_xor r x)) (sym (differences_same z zs x r e ∙ none_is_left_out zs x r apart))

    other : z ≢ x → all_differences zs r ≡ product (bit_xor r x) (differences zs x r) → all_differences (z ∷ zs) r ≡ product (bit_xor r x) (differences (z ∷ zs) x r)
    other ne before =
        ap (product (bit_xor r z)) before
        ∙ sym (product_assoc (bit_xor r z) (bit_xor r x) (differences zs x r))
        ∙ ap (λ y. product y (differences zs x r)) (product_comm (bit_xor r z) (bit_xor r x))
        ∙ product_assoc (bit_xor r x) (bit_xor r z) (differences zs x r)
        ∙ ap (product (bit_xor r x)) (sym (differences_other z zs x r ne))

    later_among : z ≢ x → IsAmong x (z ∷ zs) → IsAmong x zs
    later_among ne found = elim found [
      | inl e ↦ absurd (ne e)
      | inr later ↦ later
    ]

    step : (IsAmong x zs → all_differences zs r ≡ product (bit_xor r x) (differences zs x r)) → all_differences (z ∷ zs) r ≡ product (bit_xor r x) (differences (z ∷ zs) x r)
    step before = elim (cases_eq z x) [
      | inl e ↦ here e
      | inr ne ↦ other ne (before (later_among ne among))
    ]

-- ---- weights as quotients
nonzero_product : (a b : ℕ) → 0 < a → a < 256 → 0 < b → b < 256 → 0 < product a b
nonzero_product a b p q s t = elim (cases_eq (product a b) 0) [
  | inl e ↦ let none : b ≡ 0 = zero_from_product a b p q t e in absurd (omega (arith, none, s))
  | inr ne ↦ positive (product a b) ne
]
  where
    positive : (n : ℕ) → n ≢ 0 → 0 < n
    positive zero ne = absurd (ne refl)
    positive (suc n) ne = omega arith

differences_of_own : (zs : List ℕ) (x : ℕ) → x < 256 → AreBytes zs → 0 < differences zs x x
differences_of_own [] x byte bytes = omega arith
differences_of_own (z ∷ zs) x byte bytes = step (differences_of_own zs x byte bytes.1)
  where
    step : 0 < differences zs x x → 0 < differences (z ∷ zs) x x
    step before = elim (cases_eq z x) [
      | inl e ↦ omega (arith, before, differences_same z zs x x e)
      | inr ne ↦ omega (
        arith,
        differences_other z zs x x ne,
        nonzero_product (bit_xor x z) (differences zs x x) (nonzero_xor x z (λ e. ne (sym e))) (xor_byte x z byte bytes.0) before (differences-below zs x x),
      )
    ]

inverse_of_product : (a b : ℕ) → 0 < a → a < 256 → 0 < b → b < 256 → inverse_of (product a b) ≡ product (inverse_of a) (inverse_of b)
inverse_of_product a b p q s t =
    same_inverse (product a b) (inverse_of (product a b)) (product (inverse_of a) (inverse_of b)) (inverse_of-below (product a b)) (product-below (inverse_of a) (inverse_of b))
    (product-inverse_of (product a b) (nonzero_product a b p q s t) (product-below a b))
    (product_swap a b (inverse_of a) (inverse_of b) ∙ ap (λ y. product y (product b (inverse_of b))) (product-inverse_of a p q) ∙ ap (product 1) (product-inverse_of b s t) ∙ product-one_left 1 (omega arith))

weight_by_differences : (zs : List ℕ) (x r : ℕ) → x < 256 → AreBytes zs → weight zs x r ≡ quotient (differences zs x r) (differences zs x x)
weight_by_differences [] x r byte bytes =
    let own : product 1 (inverse_of 1) ≡ 1 = product-inverse_of 1 (omega arith) (omega arith) in
    sym own
weight_by_differences (z ∷ zs) x r byte bytes = step (weight_by_differences zs x r byte bytes.1)
  where
    step : weight zs x r ≡ quotient (differences zs x r) (differences zs x x) → weight (z ∷ zs) x r ≡ quotient (differences (z ∷ zs) x r) (differences (z ∷ zs) x x)
    step before = elim (cases_eq z x) [
      | inl e ↦ weight_same z zs x r e ∙ before ∙ sym (ap (λ y. quotient y (differences (z ∷ zs) x x)) (differences_same z zs x r e) ∙ ap (quotient (differences zs x r)) (differences_same z zs x x e))
      | inr ne ↦ weight_other z zs x r ne
          ∙ ap (product (quotient (bit_xor r z) (bit_xor x z))) before
          ∙ product_swap (bit_xor r z) (inverse_of (bit_xor x z)) (differences zs x r) (inverse_of (differences zs x x))
          ∙ ap (product (product (bit_xor r z) (differences zs x r))) (sym (inverse_of_product (bit_xor x z) (differences zs x x) (nonzero_xor x z (λ e. ne (sym e))) (xor_byte x z byte bytes.0)
          (differences_of_own zs x byte bytes.1) (differences-below zs x x)))
          ∙ sym (ap (λ y. quotient y (differences (z ∷ zs) x x)) (differences_other z zs x r ne) ∙ ap (λ y. product (product (bit_xor r z) (differences zs x r)) (inverse_of y)) (differences_other z zs x x ne))
    ]

among_at : (zs : List ℕ) (i : ℕ) → i < length zs → IsAmong (get_or zs i 0) zs
among_at [] i h = absurd (omega arith)
among_at (z ∷ zs) zero h = inl refl
among_at (z ∷ zs) (suc i) h = inr (among_at zs i (omega arith))

apart_at : (zs : List ℕ) (r i : ℕ) → i < length zs → IsApartFrom r zs → get_or zs i 0 ≢ r
apart_at [] r i h apart = absurd (omega arith)
apart_at (z ∷ zs) r zero h apart = apart.0
apart_at (z ∷ zs) r (suc i) h apart = apart_at zs r i (omega arith) apart.1

pub bytes_from_places : (zs : List ℕ) → ((i : ℕ) → get_or zs i 0 < 256) → AreBytes zs
bytes_from_places [] small = tt
bytes_from_places (z ∷ zs) small = (small 0, bytes_from_places zs (λ i. small (suc i)))

-- a place's weight in the value at another place, from the product of all differences to that one
pub weight_apart : (zs : List ℕ) (r i : ℕ) → i < length zs → r < 256 → ((k : ℕ) → get_or zs k 0 < 256) → IsAscendingFrom 0 zs → IsApartFrom r zs
    → quotient (quotient (differences zs r r) (bit_xor r (get_or zs i 0))) (differences zs (get_or zs i 0) (get_or zs i 0)) ≡ weight zs (get_or zs i 0) r
weight_apart zs r i h byte small up apart =
    let x = get_or zs i 0 in
    let d = differences zs x r in
    let gap = bit_xor r x in
    let some : 0 < gap = nonzero_xor r x (λ e. apart_at zs r i h apart (sym e)) in
    let one : product gap (inverse_of gap) ≡ 1 = product-inverse_of gap some (xor_byte r x byte (small i)) in
    let whole : differences zs r r ≡ product gap d = none_is_left_out zs r r apart ∙ one_is_left_out zs 0 x r up (among_at zs i h) in
    let first : quotient (differences zs r r) gap ≡ d =
    ap (λ y. quotient y gap) whole
    ∙ ap (λ y. product y (inverse_of gap)) (product_comm gap d)
    ∙ product_assoc d gap (inverse_of gap)
    ∙ ap (product d) one
    ∙ product-one_right d (differences-below zs x r) in
    ap (λ y. quotient y (differences zs x x)) first ∙ sym (weight_by_differences zs x r (small i) (bytes_from_places zs small))

-- ---- tests
pub ascending_more : (zs : List ℕ) (i least : ℕ) → i < length zs → least ≤ get_or zs i 0 → (IsAscendingFrom least (drop i zs) → IsAscendingFrom 0 zs) → IsAscendingFrom (get_or zs i 0 + 1) (drop (i + 1) zs) → IsAscendingFrom 0 zs
ascending_more zs i least h le before up = before (subst (IsAscendingFrom least) (sym (drop_more zs i 0 h)) (le, up))

pub ascending_end : (zs : List ℕ) (i least : ℕ) → length zs ≤ i → (IsAscendingFrom least (drop i zs) → IsAscendingFrom 0 zs) → IsAscendingFrom 0 zs
ascending_end zs i least h before = before (subst (IsAscendingFrom least) (sym (drop_all i zs h)) tt)

pub apart_when_none : (zs : List ℕ) (r : ℕ) → list_any (λ z. z == r) zs ≡ false → IsApartFrom r zs
apart_when_none [] r e = tt
apart_when_none (z ∷ zs) r e = elim (cases_eq z r) [
  | inl same ↦ let yes : (z == r) ≡ true = eq-eqb z r same in absurd cc
  | inr ne ↦ (ne, apart_when_none zs r (rest (z == r) e))
]
  where
    rest : (b : Bool) → (b || list_any (λ z. z == r) zs) ≡ false → list_any (λ z. z == r) zs ≡ false
    rest true e = cc
    rest false e = e

-- ---- a row of weights that grows
pub row_more : (places products row new : List ℕ) (r i whole quotients : ℕ) → products ≡ map (λ x. differences places x x) places → IsAscendingFrom 0 places → IsApartFrom r places → r < 256
    → ((k : ℕ) → get_or places k 0 < 256) → i < length places → whole ≡ differences places r r → quotients ≡ quotient (quotient whole (bit_xor r (get_or places i 0))) (get_or products i 0)
    → new ≡ row ++ quotients ∷ [] → row ≡ map (λ x. weight places x r) (take i places) → new ≡ map (λ x. weight places x r) (take (i + 1) places)
row_more places products row new r i whole quotients are up apart byte small h all is grown before =
    let here : get_or products i 0 ≡ differences places (get_or places i 0) (get_or places i 0) =
    ap (λ ps. get_or ps i 0) are ∙ get_or-map (λ x. differences places x x) places i 0 0 h in
    let one : quotients ≡ weight places (get_or places i 0) r =
    is
    ∙ ap (λ p. quotient (quotient p (bit_xor r (get_or places i 0))) (get_or products i 0)) all
    ∙ ap (quotient (quotient (differences places r r) (bit_xor r (get_or places i 0)))) here
    ∙ weight_apart places r i h byte small up apart in
    grown
    ∙ ap (λ xs. xs ++ quotients ∷ []) before
    ∙ ap (λ w. map (λ x. weight places x r) (take i places) ++ w ∷ []) one
    ∙ sym (map_more (λ x. weight places x r) places i 0 h)
