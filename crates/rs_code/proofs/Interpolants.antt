-- The only polynomial through some points, and its values.
use Rattle.std.proofs.Common.{◌≡◌, ◌≢◌, ℕ, zero, suc, ◌<◌, ◌≤◌, List, [], ◌∷◌, length, get_or, replicate, refl, sym, ◌∙◌, ap, subst, arith, inl, inr, bit_xor}
use Rattle.std.specs.Prelude.{All, AllPairs, slice_index_or}
use Rattle.std.specs.Int.Bits.{xor_zero_l}
use Rattle.std.proofs.lemmas.List.{get_or_default, length-replicate}
use Rattle.gf256.specs.Field.{product}
use Rattle.gf256.proofs.Xor.{xor_byte}
use Rattle.gf256.proofs.Products.{product-below}
use Rattle.rs_code.specs.ShardValue.{value, weight, weighted_sum, value_at, IsPolynomialBelow, IsInterpolant, ArePoints}
use Rattle.rs_code.proofs.Polynomials.{AreBytes, AreZeros, IsApart, AreApart, Agree, value_of_zeros, plus, value-plus, bytes-plus, length_of_plus, same_values, same_polynomial}
use Rattle.rs_code.proofs.Lagrange.{places_of, AllAmong, lagrange, value-lagrange, bytes-lagrange, length-lagrange, sum_at_own, get_or-places_of, length-places_of}

among_more : (z : ℕ) (places xs : List ℕ) → AllAmong places xs → AllAmong (z ∷ places) xs
among_more z places [] h = tt
among_more z places (x ∷ xs) h = (inr h.0, among_more z places xs h.1)

among_self : (xs : List ℕ) → AllAmong xs xs
among_self [] = tt
among_self (x ∷ xs) = (inl refl, among_more x xs xs (among_self xs))

weighted_sum-below : (places : List ℕ) (points : List (ℕ × ℕ)) (r : ℕ) → weighted_sum places points r < 256
weighted_sum-below places [] r = omega arith
weighted_sum-below places (p ∷ points) r =
    xor_byte (product (weight places p.0 r) p.1) (weighted_sum places points r) (product-below (weight places p.0 r) p.1) (weighted_sum-below places points r)

pub value_at-below : (points : List (ℕ × ℕ)) (r : ℕ) → value_at points r < 256
unfolding value_at
value_at-below points r = weighted_sum-below (places_of points) points r

-- ---- points by recursion
pub value_at_own : (points : List (ℕ × ℕ)) (k : ℕ) → AreBytes (places_of points) → AreApart (places_of points) → k < length points → (get_or points k (0, 0)).1 < 256 → value_at points (get_or points k (0, 0)).0 ≡ (get_or points k (0, 0)).1
unfolding value_at
value_at_own points k bytes apart h byte = sum_at_own (places_of points) points k bytes (among_self (places_of points)) bytes apart h byte

value_at_as_value : (points : List (ℕ × ℕ)) (r : ℕ) → value (lagrange (places_of points) points) r ≡ value_at points r
unfolding value_at
value_at_as_value points r = value-lagrange (places_of points) points r

length_of_interpolant : (points : List (ℕ × ℕ)) → length (lagrange (places_of points) points) ≤ length points
length_of_interpolant points = omega (arith, length-lagrange (places_of points) points (among_self (places_of points)), length-places_of points)

agree_by_places : (p q xs : List ℕ) → ((k : ℕ) → k < length xs → value p (get_or xs k 0) ≡ value q (get_or xs k 0)) → Agree p q xs
agree_by_places p q [] h = tt
agree_by_places p q (x ∷ xs) h = (h 0 (omega arith), agree_by_places p q xs (λ k lt. h (suc k) (omega arith)))

-- points that lie on the polynomial of as many others have its values everywhere
pub value_at_of_others : (points others : List (ℕ × ℕ)) (r : ℕ) → AreBytes (places_of others) → AreApart (places_of others) → length points ≡ length others → ((k : ℕ) → k < length others → ((get_or others k (0, 0)).1 < 256) × ((get_or others k (0, 0)).1 ≡ value_at points (get_or others k (0, 0)).0)) → value_at others r ≡ value_at points r
value_at_of_others points others r bytes apart long on =
    sym (value_at_as_value others r)
    ∙ same_values (places_of others) (lagrange (places_of others) others) (lagrange (places_of points) points) r
    (bytes-lagrange (places_of others) others) (bytes-lagrange (places_of points) points) bytes apart
    (omega (arith, length_of_interpolant others, length-places_of others))
    (omega (arith, length_of_interpolant points, length-places_of others))
    (agree_by_places (lagrange (places_of others) others) (lagrange (places_of points) points) (places_of others) agree)
    ∙ value_at_as_value points r
  where
    agree : (k : ℕ) → k < length (places_of others) → value (lagrange (places_of others) others) (get_or (places_of others) k 0) ≡ value (lagrange (places_of points) points) (get_or (places_of others) k 0)
    agree k h =
        let lt : k < length others = omega (arith, length-places_of others) in
        ap (value (lagrange (places_of others) others)) (get_or-places_of others k)
        ∙ value_at_as_value others (get_or others k (0, 0)).0
        ∙ value_at_own others k bytes apart lt (on k lt).0
        ∙ (on k lt).1
        ∙ sym (value_at_as_value points (get_or others k (0, 0)).0)
        ∙ sym (ap (value (lagrange (places_of points) points)) (get_or-places_of others k))

-- ---- the same of `ArePoints`
places_are_bytes : (points : List (ℕ × ℕ)) → All (λ p. (p.0 < 256) × (p.1 < 256)) points → AreBytes (places_of points)
places_are_bytes [] h = tt
places_are_bytes (p ∷ points) h = ((h 0 p (omega arith)).0, places_are_bytes points (λ k d lt. h (suc k) d (omega arith)))

apart_from_rest : (x : ℕ) (points : List (ℕ × ℕ)) → ((k : ℕ) (d : ℕ × ℕ) → k < length points → x ≢ (slice_index_or points k d).0) → IsApart x (places_of points)
apart_from_rest x [] h = tt
apart_from_rest x (p ∷ points) h = ((λ e. h 0 p (omega arith) (sym e)), apart_from_rest x points (λ k d lt. h (suc k) d (omega arith)))

places_are_apart : (points : List (ℕ × ℕ)) → AllPairs (λ p q. p.0 ≢ q.0) points → AreApart (places_of points)
places_are_apart [] h = tt
places_are_apart (p ∷ points) h = (
  apart_from_rest p.0 points (λ k d lt. h 0 (suc k) d (omega arith) (omega arith)),
  places_are_apart points (λ i j d ij lt. h (suc i) (suc j) d (omega arith) (omega arith)),
)

pub value_at_point : (points : List (ℕ × ℕ)) (k : ℕ) → ArePoints points → k < length points → value_at points (get_or points k (0, 0)).0 ≡ (get_or points k (0, 0)).1
value_at_point points k h lt =
    value_at_own points k (places_are_bytes points h.0) (places_are_apart points h.1) lt (h.0 k (0, 0) lt).1

pub value_at_through_others : (points others : List (ℕ × ℕ)) (r : ℕ) → ArePoints points → ArePoints others → length points ≡ length others → All (λ q. q.1 ≡ value_at points q.0) others → r < 256 → value_at others r ≡ value_at points r
value_at_through_others points others r h k long on byte =
    value_at_of_others points others r (places_are_bytes others k.0) (places_are_apart others k.1) long
    (λ i lt. ((k.0 i (0, 0) lt).1, on i (0, 0) lt))

-- ---- polynomials of n coefficients
bytes_from_all : (xs : List ℕ) → All (λ c. c < 256) xs → AreBytes xs
bytes_from_all [] h = tt
bytes_from_all (x ∷ xs) h = (h 0 x (omega arith), bytes_from_all xs (λ k d lt. h (suc k) d (omega arith)))

all_from_bytes : (xs : List ℕ) → AreBytes xs → All (λ c. c < 256) xs
all_from_bytes [] h k d lt = absurd (omega arith)
all_from_bytes (x ∷ xs) h zero d lt = h.0
all_from_bytes (x ∷ xs) h (suc k) d lt = all_from_bytes xs h.1 k d (omega arith)

zeros_are_zeros : (n : ℕ) → AreZeros (replicate n 0)
zeros_are_zeros zero = tt
zeros_are_zeros (suc n) = (refl, zeros_are_zeros n)

zeros_are_bytes : (n : ℕ) → AreBytes (replicate n 0)
zeros_are_bytes zero = tt
zeros_are_bytes (suc n) = (omega arith, zeros_are_bytes n)

-- the interpolant with as many coefficients as there are points
interpolant : List (ℕ × ℕ) → List ℕ
interpolant points = plus (replicate (length points) 0) (lagrange (places_of points) points)

value_of_interpolant : (points : List (ℕ × ℕ)) (r : ℕ) → value (interpolant points) r ≡ value_at points r
unfolding interpolant
value_of_interpolant points r =
    value-plus (replicate (length points) 0) (lagrange (places_of points) points) r
    ∙ ap (λ y. bit_xor y (value (lagrange (places_of points) points) r)) (value_of_zeros (replicate (length points) 0) r (zeros_are_zeros (length points)))
    ∙ xor_zero_l (value (lagrange (places_of points) points) r)
    ∙ value_at_as_value points r

interpolant_is_below : (points : List (ℕ × ℕ)) → IsPolynomialBelow (length points) (interpolant points)
unfolding interpolant
interpolant_is_below points =
    let long : length (replicate {A = ℕ} (length points) 0) ≡ length points = length-replicate (length points) 0 in (
      length_of_plus (replicate (length points) 0) (lagrange (places_of points) points) (omega (arith, length_of_interpolant points, long)) ∙ long,
      all_from_bytes (plus (replicate (length points) 0) (lagrange (places_of points) points))
          (bytes-plus (replicate (length points) 0) (lagrange (places_of points) points) (zeros_are_bytes (length points)) (bytes-lagrange (places_of points) points)),
    )

interpolant_goes_through : (points : List (ℕ × ℕ)) → ArePoints points → IsInterpolant points (interpolant points)
interpolant_goes_through points h k d lt =
    subst (λ (p : ℕ × ℕ). value (interpolant points) p.0 ≡ p.1) (get_or_default points k (0, 0) d lt)
    (value_of_interpolant points (get_or points k (0, 0)).0 ∙ value_at_point points k h lt)

pub interpolant_exists : (points : List (ℕ × ℕ)) → ArePoints points → (polynomial : List ℕ) × IsPolynomialBelow (length points) polynomial × IsInterpolant points polynomial
interpolant_exists points h = (interpolant points, interpolant_is_below points, interpolant_goes_through points h)

agree_of_interpolants : (points : List (ℕ × ℕ)) (p q : List ℕ) → IsInterpolant points p → IsInterpolant points q → Agree p q (places_of points)
agree_of_interpolants points p q hp hq =
    agree_by_places p q (places_of points) (λ k h.
    let lt : k < length points = omega (arith, length-places_of points) in
    ap (value p) (get_or-places_of points k) ∙ hp k (0, 0) lt ∙ sym (hq k (0, 0) lt) ∙ sym (ap (value q) (get_or-places_of points k)))

pub interpolant_is_only : (points : List (ℕ × ℕ)) (p q : List ℕ) → ArePoints points → IsPolynomialBelow (length points) p → IsInterpolant points p → IsPolynomialBelow (length points) q → IsInterpolant points q → p ≡ q
interpolant_is_only points p q h bp ip bq iq =
    same_polynomial (places_of points) p q (bytes_from_all p bp.1) (bytes_from_all q bq.1) (places_are_bytes points h.0) (places_are_apart points h.1)
    (bp.0 ∙ sym (length-places_of points)) (bq.0 ∙ sym (length-places_of points)) (agree_of_interpolants points p q ip iq)

pub value_at_is_value : (points : List (ℕ × ℕ)) (p : List ℕ) (r : ℕ) → ArePoints points → IsPolynomialBelow (length points) p → IsInterpolant points p → value_at points r ≡ value p r
value_at_is_value points p r h bp ip =
    sym (value_of_interpolant points r)
    ∙ ap (λ q. value q r) (interpolant_is_only points (interpolant points) p h (interpolant_is_below points) (interpolant_goes_through points h) bp ip)
