-- Polynomials over the field: division by x - a, and how many roots there can be.
use Rattle.std.proofs.Common.{◌≡◌, ◌≢◌, ℕ, zero, suc, ◌<◌, ◌≤◌, List, [], ◌∷◌, length, bit_xor, refl, sym, ◌∙◌, ap, arith}
use Rattle.std.specs.Int.Bits.{xor_self, xor_zero_l, xor_zero_r}
use Rattle.std.proofs.lemmas.Nat.{xor_comm}
use Rattle.gf256.specs.Field.{product}
use Rattle.gf256.proofs.Xor.{xor_swap, xor_left_same, same_from_xor, xor_byte}
use Rattle.gf256.proofs.Products.{product-below, product_comm, product_assoc, product-xor_left, product-xor_right, product-zero_right}
use Rattle.gf256.proofs.Inverses.{zero_from_product}
use Rattle.rs_code.specs.ShardValue.{value}

-- ---- facts by recursion
abbrev pub AreBytes : List ℕ → Type 0
AreBytes [] = Unit {0}
AreBytes (x ∷ xs) = (x < 256) × AreBytes xs

abbrev pub AreZeros : List ℕ → Type 0
AreZeros [] = Unit {0}
AreZeros (x ∷ xs) = (x ≡ 0) × AreZeros xs

abbrev pub IsApart : ℕ → List ℕ → Type 0
IsApart x [] = Unit {0}
IsApart x (z ∷ zs) = (z ≢ x) × IsApart x zs

abbrev pub AreApart : List ℕ → Type 0
AreApart [] = Unit {0}
AreApart (x ∷ xs) = IsApart x xs × AreApart xs

-- two polynomials have the same values at some places
abbrev pub Agree : List ℕ → List ℕ → List ℕ → Type 0
Agree p q [] = Unit {0}
Agree p q (x ∷ xs) = (value p x ≡ value q x) × Agree p q xs

-- ---- values
pub value-below : (p : List ℕ) (x : ℕ) → AreBytes p → value p x < 256
value-below [] x h = omega arith
value-below (c ∷ cs) x h = xor_byte c (product x (value cs x)) h.0 (product-below x (value cs x))

pub value_of_zeros : (p : List ℕ) (x : ℕ) → AreZeros p → value p x ≡ 0
value_of_zeros [] x h = refl
value_of_zeros (c ∷ cs) x h =
    ap (λ y. bit_xor y (product x (value cs x))) h.0
    ∙ xor_zero_l (product x (value cs x))
    ∙ ap (product x) (value_of_zeros cs x h.1)
    ∙ product-zero_right x

-- ---- division by x - a, where the polynomial's first coefficient is left out
divided : ℕ → List ℕ → List ℕ
divided a [] = []
divided a (d ∷ ds) = value (d ∷ ds) a ∷ divided a ds

length-divided : (a : ℕ) (cs : List ℕ) → length (divided a cs) ≡ length cs
unfolding divided
length-divided a [] = refl
length-divided a (d ∷ ds) = ap suc (length-divided a ds)

bytes-divided : (a : ℕ) (cs : List ℕ) → AreBytes cs → AreBytes (divided a cs)
unfolding divided
bytes-divided a [] h = tt
bytes-divided a (d ∷ ds) h = (value-below (d ∷ ds) a h, bytes-divided a ds h.1)

swap_product : (s x q : ℕ) → product s (product x q) ≡ product x (product s q)
swap_product s x q = sym (product_assoc s x q) ∙ ap (λ y. product y q) (product_comm s x) ∙ product_assoc x s q

cancel_first : (p r t : ℕ) → bit_xor (bit_xor p r) (bit_xor t p) ≡ bit_xor t r
cancel_first p r t = ap (bit_xor (bit_xor p r)) (xor_comm t p) ∙ xor_left_same p r t ∙ xor_comm r t

division : (a x : ℕ) (cs : List ℕ) → product (bit_xor x a) (value (divided a cs) x) ≡ bit_xor (product x (value cs x)) (product a (value cs a))
unfolding divided
division a x [] =
    product-zero_right (bit_xor x a)
    ∙ sym (ap (λ y. bit_xor y (product a 0)) (product-zero_right x) ∙ xor_zero_l (product a 0) ∙ product-zero_right a)
division a x (d ∷ ds) =
    product-xor_right (bit_xor x a) (value (d ∷ ds) a) (product x (value (divided a ds) x))
    ∙ ap (λ y. bit_xor y (product (bit_xor x a) (product x (value (divided a ds) x)))) (product-xor_left x a (value (d ∷ ds) a))
    ∙ ap (bit_xor (bit_xor (product x (value (d ∷ ds) a)) (product a (value (d ∷ ds) a))))
    (swap_product (bit_xor x a) x (value (divided a ds) x)
    ∙ ap (product x) (division a x ds ∙ sym (xor_left_same d (product x (value ds x)) (product a (value ds a))))
    ∙ product-xor_right x (value (d ∷ ds) x) (value (d ∷ ds) a))
    ∙ cancel_first (product x (value (d ∷ ds) a)) (product a (value (d ∷ ds) a)) (product x (value (d ∷ ds) x))

zeros_from_divided : (a : ℕ) (cs : List ℕ) → AreZeros (divided a cs) → AreZeros cs
unfolding divided
zeros_from_divided a [] h = tt
zeros_from_divided a (d ∷ ds) h =
    let rest = zeros_from_divided a ds h.1 in
    (sym (ap (λ y. bit_xor d (product a y)) (value_of_zeros ds a rest) ∙ ap (bit_xor d) (product-zero_right a) ∙ xor_zero_r d) ∙ h.0, rest)

-- ---- roots
abbrev pub AreRoots : List ℕ → List ℕ → Type 0
AreRoots p [] = Unit {0}
AreRoots p (x ∷ xs) = (value p x ≡ 0) × AreRoots p xs

pub nonzero_xor : (x a : ℕ) → x ≢ a → 0 < bit_xor x a
nonzero_xor x a ne = go (bit_xor x a) refl
  where
    go : (d : ℕ) → bit_xor x a ≡ d → 0 < d
    go zero e = absurd (ne (same_from_xor x a e))
    go (suc d) e = omega arith

roots_of_divided : (a c : ℕ) (cs xs : List ℕ) → a < 256 → AreBytes cs → AreBytes xs → IsApart a xs → value (c ∷ cs) a ≡ 0 → AreRoots (c ∷ cs) xs → AreRoots (divided a cs) xs
roots_of_divided a c cs [] p bytes places apart root roots = tt
roots_of_divided a c cs (x ∷ xs) p bytes places apart root roots =
    let zero_product : product (bit_xor x a) (value (divided a cs) x) ≡ 0 =
    division a x cs
    ∙ sym (xor_left_same c (product x (value cs x)) (product a (value cs a)))
    ∙ ap (λ y. bit_xor y (value (c ∷ cs) a)) roots.0
    ∙ ap (bit_xor 0) root in (
      zero_from_product (bit_xor x a) (value (divided a cs) x) (nonzero_xor x a apart.0) (xor_byte x a places.0 p) (value-below (divided a cs) x (bytes-divided a cs bytes)) zero_product,
      roots_of_divided a c cs xs p bytes places.1 apart.1 root roots.1,
    )

-- a polynomial with as many roots as coefficients is 0
pub zeros_from_roots : (xs p : List ℕ) → AreBytes p → AreBytes xs → AreApart xs → length p ≤ length xs → AreRoots p xs → AreZeros p
zeros_from_roots [] [] bytes places apart long roots = tt
zeros_from_roots [] (c ∷ cs) bytes places apart long roots = absurd (omega arith)
zeros_from_roots (a ∷ xs) [] bytes places apart long roots = tt
zeros_from_roots (a ∷ xs) (c ∷ cs) bytes places apart long roots =
    let rest : AreZeros cs = zeros_from_divided a cs
    (zeros_from_roots xs (divided a cs) (bytes-divided a cs bytes.1) places.1 apart.1 (omega (arith, length-divided a cs))
    (roots_of_divided a c cs xs places.0 bytes.1 places.1 apart.0 roots.0 roots.1)) in
    (sym (ap (λ y. bit_xor c (product a y)) (value_of_zeros cs a rest) ∙ ap (bit_xor c) (product-zero_right a) ∙ xor_zero_r c) ∙ roots.0, rest)

-- ---- sums
pub plus : List ℕ → List ℕ → List ℕ
plus [] q = q
plus (c ∷ p) [] = c ∷ p
plus (c ∷ p) (d ∷ q) = bit_xor c d ∷ plus p q

pub value-plus : (p q : List ℕ) (x : ℕ) → value (plus p q) x ≡ bit_xor (value p x) (value q x)
unfolding plus
value-plus [] q x = sym (xor_zero_l (value q x))
value-plus (c ∷ p) [] x = sym (xor_zero_r (value (c ∷ p) x))
value-plus (c ∷ p) (d ∷ q) x =
    ap (λ y. bit_xor (bit_xor c d) (product x y)) (value-plus p q x)
    ∙ ap (bit_xor (bit_xor c d)) (product-xor_right x (value p x) (value q x))
    ∙ xor_swap c d (product x (value p x)) (product x (value q x))

pub bytes-plus : (p q : List ℕ) → AreBytes p → AreBytes q → AreBytes (plus p q)
unfolding plus
bytes-plus [] q h k = k
bytes-plus (c ∷ p) [] h k = h
bytes-plus (c ∷ p) (d ∷ q) h k = (xor_byte c d h.0 k.0, bytes-plus p q h.1 k.1)

pub length-plus : (p q : List ℕ) (n : ℕ) → length p ≤ n → length q ≤ n → length (plus p q) ≤ n
unfolding plus
length-plus [] q n h k = k
length-plus (c ∷ p) [] n h k = h
length-plus (c ∷ p) (d ∷ q) zero h k = absurd (omega arith)
length-plus (c ∷ p) (d ∷ q) (suc n) h k =
    let rest = length-plus p q n (omega arith) (omega arith) in
    omega (arith, rest)

pub length_of_plus : (p q : List ℕ) → length q ≤ length p → length (plus p q) ≡ length p
unfolding plus
length_of_plus [] [] h = refl
length_of_plus [] (d ∷ q) h = absurd (omega arith)
length_of_plus (c ∷ p) [] h = refl
length_of_plus (c ∷ p) (d ∷ q) h = ap suc (length_of_plus p q (omega arith))

roots_of_plus : (p q xs : List ℕ) → Agree p q xs → AreRoots (plus p q) xs
roots_of_plus p q [] h = tt
roots_of_plus p q (x ∷ xs) h =
    (value-plus p q x ∙ ap (λ y. bit_xor y (value q x)) h.0 ∙ xor_self (value q x), roots_of_plus p q xs h.1)

pub difference_is_zero : (xs p q : List ℕ) → AreBytes p → AreBytes q → AreBytes xs → AreApart xs → length p ≤ length xs → length q ≤ length xs → Agree p q xs → AreZeros (plus p q)
difference_is_zero xs p q bp bq bx apart lp lq agree =
    zeros_from_roots xs (plus p q) (bytes-plus p q bp bq) bx apart (length-plus p q (length xs) lp lq) (roots_of_plus p q xs agree)

-- two polynomials of degree below n that agree at n places have the same values everywhere
pub same_values : (xs p q : List ℕ) (r : ℕ) → AreBytes p → AreBytes q → AreBytes xs → AreApart xs → length p ≤ length xs → length q ≤ length xs → Agree p q xs → value p r ≡ value q r
same_values xs p q r bp bq bx apart lp lq agree =
    same_from_xor (value p r) (value q r)
    (sym (value-plus p q r) ∙ value_of_zeros (plus p q) r (difference_is_zero xs p q bp bq bx apart lp lq agree))

same_from_zeros : (p q : List ℕ) → length p ≡ length q → AreZeros (plus p q) → p ≡ q
unfolding plus
same_from_zeros [] [] e h = refl
same_from_zeros [] (d ∷ q) e h = absurd (omega arith)
same_from_zeros (c ∷ p) [] e h = absurd (omega arith)
same_from_zeros (c ∷ p) (d ∷ q) e h =
    ap (λ y. y ∷ p) (same_from_xor c d h.0) ∙ ap (λ ys. d ∷ ys) (same_from_zeros p q (omega arith) h.1)

-- they are one list of n coefficients
pub same_polynomial : (xs p q : List ℕ) → AreBytes p → AreBytes q → AreBytes xs → AreApart xs → length p ≡ length xs → length q ≡ length xs → Agree p q xs → p ≡ q
same_polynomial xs p q bp bq bx apart lp lq agree =
    same_from_zeros p q (lp ∙ sym lq) (difference_is_zero xs p q bp bq bx apart (omega arith) (omega arith) agree)
