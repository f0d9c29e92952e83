-- The polynomial through some points, and that `value_at` is its value.
use Rattle.std.proofs.Common.{◌≡◌, ◌≢◌, ℕ, zero, suc, ◌+◌, ◌<◌, ◌≤◌, List, [], ◌∷◌, length, get_or, map, bit_xor, refl, sym, ◌∙◌, ap, subst, arith, ◌⊎◌, inl, inr, Bool, true, false, cond}
use Rattle.std.specs.Prelude.{◌==◌}
use Rattle.std.specs.Int.Bits.{xor_self, xor_zero_l, xor_zero_r}
use Rattle.std.proofs.lemmas.Bool.{eqb-true, eq-eqb, cases_eq}
use Rattle.gf256.specs.Field.{product, inverse_of}
use Rattle.gf256.proofs.Xor.{xor_byte}
use Rattle.gf256.proofs.Products.{product-below, product_comm, product_assoc, product-xor_left, product-xor_right, product-zero_left, product-zero_right, product-one_left, product-one_right}
use Rattle.gf256.proofs.Inverses.{product-inverse_of}
use Rattle.rs_code.specs.ShardValue.{value, quotient, weight, weighted_sum}
use Rattle.rs_code.proofs.Weights.{weight_same, weight_other}
use Rattle.rs_code.proofs.Polynomials.{AreBytes, IsApart, AreApart, plus, value-plus, bytes-plus, length-plus, nonzero_xor}

abbrev pub places_of : List (ℕ × ℕ) → List ℕ
places_of points = map (λ p. p.0) points

-- x is one of some places
abbrev pub IsAmong : ℕ → List ℕ → Type 0
IsAmong x [] = ⊥
IsAmong x (z ∷ zs) = (z ≡ x) ⊎ IsAmong x zs

-- ---- a multiple, and a product with x - a
scaled : ℕ → List ℕ → List ℕ
scaled k [] = []
scaled k (c ∷ cs) = product k c ∷ scaled k cs

value-scaled : (k : ℕ) (p : List ℕ) (x : ℕ) → value (scaled k p) x ≡ product k (value p x)
unfolding scaled
value-scaled k [] x = sym (product-zero_right k)
value-scaled k (c ∷ cs) x =
    ap (λ y. bit_xor (product k c) (product x y)) (value-scaled k cs x)
    ∙ ap (bit_xor (product k c)) (sym (product_assoc x k (value cs x)) ∙ ap (λ y. product y (value cs x)) (product_comm x k) ∙ product_assoc k x (value cs x))
    ∙ sym (product-xor_right k c (product x (value cs x)))

bytes-scaled : (k : ℕ) (p : List ℕ) → AreBytes (scaled k p)
unfolding scaled
bytes-scaled k [] = tt
bytes-scaled k (c ∷ cs) = (product-below k c, bytes-scaled k cs)

length-scaled : (k : ℕ) (p : List ℕ) → length (scaled k p) ≡ length p
unfolding scaled
length-scaled k [] = refl
length-scaled k (c ∷ cs) = ap suc (length-scaled k cs)

with_root : ℕ → List ℕ → List ℕ
with_root a p = plus (0 ∷ p) (scaled a p)

value-with_root : (a : ℕ) (p : List ℕ) (x : ℕ) → value (with_root a p) x ≡ product (bit_xor x a) (value p x)
unfolding with_root
value-with_root a p x =
    value-plus (0 ∷ p) (scaled a p) x
    ∙ ap (bit_xor (value (0 ∷ p) x)) (value-scaled a p x)
    ∙ ap (λ y. bit_xor y (product a (value p x))) (xor_zero_l (product x (value p x)))
    ∙ sym (product-xor_left x a (value p x))

bytes-with_root : (a : ℕ) (p : List ℕ) → AreBytes p → AreBytes (with_root a p)
unfolding with_root
bytes-with_root a p h = bytes-plus (0 ∷ p) (scaled a p) (omega arith, h) (bytes-scaled a p)

length-with_root : (a : ℕ) (p : List ℕ) (n : ℕ) → length p ≤ n → length (with_root a p) ≤ n + 1
unfolding with_root
length-with_root a p n h = length-plus (0 ∷ p) (scaled a p) (n + 1) (omega arith) (omega (arith, length-scaled a p))

-- ---- the polynomial that is 1 at x and 0 at the other places
basis : ℕ → List ℕ → List ℕ
basis x [] = 1 ∷ []
basis x (z ∷ zs) = cond (z == x) (basis x zs) (scaled (inverse_of (bit_xor x z)) (with_root z (basis x zs)))

basis_same : (x z : ℕ) (zs : List ℕ) → z ≡ x → basis x (z ∷ zs) ≡ basis x zs
unfolding basis
basis_same x z zs e = ap (λ t. cond t (basis x zs) (scaled (inverse_of (bit_xor x z)) (with_root z (basis x zs)))) (eq-eqb z x e)

basis_other : (x z : ℕ) (zs : List ℕ) → z ≢ x → basis x (z ∷ zs) ≡ scaled (inverse_of (bit_xor x z)) (with_root z (basis x zs))
unfolding basis
basis_other x z zs ne = go (z == x) refl
  where
    go : (t : Bool) → (z == x) ≡ t → cond t (basis x zs) (scaled (inverse_of (bit_xor x z)) (with_root z (basis x zs))) ≡ scaled (inverse_of (bit_xor x z)) (with_root z (basis x zs))
    go true e = absurd (ne (eqb-true z x e))
    go false e = refl

value-basis : (x : ℕ) (zs : List ℕ) (r : ℕ) → value (basis x zs) r ≡ weight zs x r
unfolding basis
value-basis x [] r = first
  where
    first : value (basis x []) r ≡ 1
    first = ap (bit_xor 1) (product-zero_right r)
value-basis x (z ∷ zs) r = step (value-basis x zs r)
  where
    step : value (basis x zs) r ≡ weight zs x r → value (basis x (z ∷ zs)) r ≡ weight (z ∷ zs) x r
    step h = elim (cases_eq z x) [
      | inl e ↦ ap (λ p. value p r) (basis_same x z zs e) ∙ h ∙ sym (weight_same z zs x r e)
      | inr ne ↦ ap (λ p. value p r) (basis_other x z zs ne)
          ∙ value-scaled (inverse_of (bit_xor x z)) (with_root z (basis x zs)) r
          ∙ ap (product (inverse_of (bit_xor x z))) (value-with_root z (basis x zs) r ∙ ap (product (bit_xor r z)) h)
          ∙ sym (product_assoc (inverse_of (bit_xor x z)) (bit_xor r z) (weight zs x r))
          ∙ ap (λ y. product y (weight zs x r)) (product_comm (inverse_of (bit_xor x z)) (bit_xor r z))
          ∙ sym (weight_other z zs x r ne)
    ]

bytes-basis : (x : ℕ) (zs : List ℕ) → AreBytes (basis x zs)
unfolding basis
bytes-basis x [] = first
  where
    first : AreBytes (basis x [])
    first = (omega arith, tt)
bytes-basis x (z ∷ zs) = step (bytes-basis x zs)
  where
    step : AreBytes (basis x zs) → AreBytes (basis x (z ∷ zs))
    step h = elim (cases_eq z x) [
      | inl e ↦ subst AreBytes (sym (basis_same x z zs e)) h
      | inr ne ↦ subst AreBytes (sym (basis_other x z zs ne)) (bytes-scaled (inverse_of (bit_xor x z)) (with_root z (basis x zs)))
    ]

length-basis : (x : ℕ) (zs : List ℕ) → length (basis x zs) ≤ length zs + 1
unfolding basis
length-basis x [] = first
  where
    first : length (basis x []) ≤ 1
    first = omega arith
length-basis x (z ∷ zs) = step (length-basis x zs)
  where
    step : length (basis x zs) ≤ length zs + 1 → length (basis x (z ∷ zs)) ≤ length (z ∷ zs) + 1
    step h = elim (cases_eq z x) [
      | inl e ↦ omega (arith, ap length (basis_same x z zs e))
      | inr ne ↦ omega (arith, ap length (basis_other x z zs ne), length-scaled (inverse_of (bit_xor x z)) (with_root z (basis x zs)), length-with_root z (basis x zs) (length zs + 1) h)
    ]

length_basis_among : (x : ℕ) (zs : List ℕ) → IsAmong x zs → length (basis x zs) ≤ length zs
length_basis_among x [] h = absurd h
length_basis_among x (z ∷ zs) (inl e) = omega (arith, ap length (basis_same x z zs e), length-basis x zs)
length_basis_among x (z ∷ zs) (inr h) = step (length_basis_among x zs h)
  where
    step : length (basis x zs) ≤ length zs → length (basis x (z ∷ zs)) ≤ length (z ∷ zs)
    step k = elim (cases_eq z x) [
      | inl e ↦ omega (arith, ap length (basis_same x z zs e), length-basis x zs)
      | inr ne ↦ omega (arith, ap length (basis_other x z zs ne), length-scaled (inverse_of (bit_xor x z)) (with_root z (basis x zs)), length-with_root z (basis x zs) (length zs) k)
    ]

-- ---- their sum
pub lagrange : List ℕ → List (ℕ × ℕ) → List ℕ
lagrange places [] = []
lagrange places (p ∷ points) = plus (scaled p.1 (basis p.0 places)) (lagrange places points)

pub value-lagrange : (places : List ℕ) (points : List (ℕ × ℕ)) (r : ℕ) → value (lagrange places points) r ≡ weighted_sum places points r
unfolding lagrange
value-lagrange places [] r = refl
value-lagrange places (p ∷ points) r =
    value-plus (scaled p.1 (basis p.0 places)) (lagrange places points) r
    ∙ ap (λ y. bit_xor y (value (lagrange places points) r)) (value-scaled p.1 (basis p.0 places) r ∙ ap (product p.1) (value-basis p.0 places r) ∙ product_comm p.1 (weight places p.0 r))
    ∙ ap (bit_xor (product (weight places p.0 r) p.1)) (value-lagrange places points r)

pub bytes-lagrange : (places : List ℕ) (points : List (ℕ × ℕ)) → AreBytes (lagrange places points)
unfolding lagrange
bytes-lagrange places [] = tt
bytes-lagrange places (p ∷ points) =
    bytes-plus (scaled p.1 (basis p.0 places)) (lagrange places points) (bytes-scaled p.1 (basis p.0 places)) (bytes-lagrange places points)

abbrev pub AllAmong : List ℕ → List ℕ → Type 0
AllAmong places [] = Unit {0}
AllAmong places (x ∷ xs) = IsAmong x places × AllAmong places xs

pub length-lagrange : (places : List ℕ) (points : List (ℕ × ℕ)) → AllAmong places (places_of points) → length (lagrange places points) ≤ length places
unfolding lagrange
length-lagrange places [] h = omega arith
length-lagrange places (p ∷ points) h =
    length-plus (scaled p.1 (basis p.0 places)) (lagrange places points) (length places)
    (omega (arith, length-scaled p.1 (basis p.0 places), length_basis_among p.0 places h.0))
    (length-lagrange places points h.1)

-- ---- at the places themselves
weight_at_own : (zs : List ℕ) (x : ℕ) → AreBytes zs → x < 256 → weight zs x x ≡ 1
weight_at_own [] x h p = refl
weight_at_own (z ∷ zs) x h p = step (weight_at_own zs x h.1 p)
  where
    step : weight zs x x ≡ 1 → weight (z ∷ zs) x x ≡ 1
    step k = elim (cases_eq z x) [
      | inl e ↦ weight_same z zs x x e ∙ k
      | inr ne ↦
          let apart : x ≢ z = λ e. ne (sym e) in
          weight_other z zs x x ne
          ∙ ap (λ y. product y (weight zs x x)) (product-inverse_of (bit_xor x z) (nonzero_xor x z apart) (xor_byte x z p h.0))
          ∙ ap (product 1) k
          ∙ product-one_right 1 (omega arith)
    ]

weight_at_other : (zs : List ℕ) (x r : ℕ) → IsAmong r zs → r ≢ x → weight zs x r ≡ 0
weight_at_other [] x r h ne = absurd h
weight_at_other (z ∷ zs) x r (inl e) ne =
    let apart : z ≢ x = λ same. ne (sym e ∙ same) in
    weight_other z zs x r apart
    ∙ ap (λ y. product (quotient (bit_xor r y) (bit_xor x z)) (weight zs x r)) e
    ∙ ap (λ y. product (quotient y (bit_xor x z)) (weight zs x r)) (xor_self r)
    ∙ ap (λ y. product y (weight zs x r)) (product-zero_left (inverse_of (bit_xor x z)))
    ∙ product-zero_left (weight zs x r)
weight_at_other (z ∷ zs) x r (inr h) ne = step (weight_at_other zs x r h ne)
  where
    step : weight zs x r ≡ 0 → weight (z ∷ zs) x r ≡ 0
    step k = elim (cases_eq z x) [
      | inl e ↦ weight_same z zs x r e ∙ k
      | inr apart ↦ weight_other z zs x r apart ∙ ap (product (quotient (bit_xor r z) (bit_xor x z))) k ∙ product-zero_right (quotient (bit_xor r z) (bit_xor x z))
    ]

sum_at_other : (places : List ℕ) (points : List (ℕ × ℕ)) (r : ℕ) → IsAmong r places → IsApart r (places_of points) → weighted_sum places points r ≡ 0
sum_at_other places [] r h apart = refl
sum_at_other places (p ∷ points) r h apart =
    ap (λ y. bit_xor (product y p.1) (weighted_sum places points r)) (weight_at_other places p.0 r h (λ e. apart.0 (sym e)))
    ∙ ap (λ y. bit_xor y (weighted_sum places points r)) (product-zero_left p.1)
    ∙ xor_zero_l (weighted_sum places points r)
    ∙ sum_at_other places points r h apart.1

apart_from : (x : ℕ) (xs : List ℕ) (k : ℕ) → k < length xs → IsApart x xs → get_or xs k 0 ≢ x
apart_from x [] k h apart = absurd (omega arith)
apart_from x (z ∷ zs) zero h apart = apart.0
apart_from x (z ∷ zs) (suc k) h apart = apart_from x zs k (omega arith) apart.1

pub get_or-places_of : (points : List (ℕ × ℕ)) (k : ℕ) → get_or (places_of points) k 0 ≡ (get_or points k (0, 0)).0
get_or-places_of [] k = refl
get_or-places_of (p ∷ points) zero = refl
get_or-places_of (p ∷ points) (suc k) = get_or-places_of points k

pub length-places_of : (points : List (ℕ × ℕ)) → length (places_of points) ≡ length points
length-places_of [] = refl
length-places_of (p ∷ points) = ap suc (length-places_of points)

among_at : (places : List ℕ) (points : List (ℕ × ℕ)) (k : ℕ) → AllAmong places (places_of points) → k < length points → IsAmong (get_or points k (0, 0)).0 places
among_at places [] k h p = absurd (omega arith)
among_at places (q ∷ points) zero h p = h.0
among_at places (q ∷ points) (suc k) h p = among_at places points k h.1 (omega arith)

pub sum_at_own : (places : List ℕ) (points : List (ℕ × ℕ)) (k : ℕ) → AreBytes places → AllAmong places (places_of points) → AreBytes (places_of points) → AreApart (places_of points) → k < length points → (get_or points k (0, 0)).1 < 256 → weighted_sum places points (get_or points k (0, 0)).0 ≡ (get_or points k (0, 0)).1
sum_at_own places [] k bytes among own apart h byte = absurd (omega arith)
sum_at_own places (p ∷ points) zero bytes among own apart h byte =
    ap (λ y. bit_xor (product y p.1) (weighted_sum places points p.0)) (weight_at_own places p.0 bytes own.0)
    ∙ ap (bit_xor (product 1 p.1)) (sum_at_other places points p.0 among.0 apart.0)
    ∙ xor_zero_r (product 1 p.1)
    ∙ product-one_left p.1 byte
sum_at_own places (p ∷ points) (suc k) bytes among own apart h byte =
    let here : get_or (places_of points) k 0 ≢ p.0 = apart_from p.0 (places_of points) k (omega (arith, length-places_of points)) apart.0 in
    let ne : (get_or points k (0, 0)).0 ≢ p.0 = λ e. here (get_or-places_of points k ∙ e) in
    ap (λ y. bit_xor (product y p.1) (weighted_sum places points (get_or points k (0, 0)).0)) (weight_at_other places p.0 (get_or points k (0, 0)).0 (among_at places points k among.1 (omega arith)) ne)
    ∙ ap (λ y. bit_xor y (weighted_sum places points (get_or points k (0, 0)).0)) (product-zero_left p.1)
    ∙ xor_zero_l (weighted_sum places points (get_or points k (0, 0)).0)
    ∙ sum_at_own places points k bytes among.1 own.1 apart.1 (omega arith) byte
