-- What a remainder leaves after 128 bits, and after multiples of 128: the powers add up to nothing.
use Rattle.std.proofs.Common.{◌≡◌, ◌∙◌, sym, ap, refl, ℕ, zero, suc, ◌+◌, ◌-◌, ◌*◌, ◌/◌, ◌%◌, ◌^◌, ◌<◌, ◌≤◌, Bool, true, false, ltb, List, [], ◌∷◌, pow-suc, bit_xor, arith}
use Rattle.std.specs.Int.Bits.{xor_assoc, xor_self, xor_zero_l, xor_zero_r}
use Rattle.std.proofs.lemmas.Bool.{ltb-true, ltb-false}
use Rattle.std.proofs.lemmas.Nat.{xor_comm, xor_lt}
use Rattle.shard_record.specs.Crc.{shifted, shifted_by}
use Rattle.shard_record.specs.Folding.{lower_exponents}
use Rattle.shard_record.proofs.Remainder.{xor_swap, low_xor_high, shifted_by-xor, shifted_by-shl, shifted_by-add}

-- all exponents of the polynomial
abbrev pub exponents : List ℕ
exponents = 32 ∷ lower_exponents

-- the sum of what a remainder leaves after 128 bits for each exponent
pub powers : List ℕ → ℕ → ℕ
powers [] r = 0
powers (e ∷ es) r = bit_xor (shifted_by (128 * e) r) (powers es r)

pub powers-more : (e : ℕ) (es : List ℕ) (r : ℕ) → powers (e ∷ es) r ≡ bit_xor (shifted_by (128 * e) r) (powers es r)
unfolding powers
powers-more e es r = refl

pub powers-none : (r : ℕ) → powers [] r ≡ 0
unfolding powers
powers-none r = refl

pub shifted_by-zero : (n : ℕ) → shifted_by n 0 ≡ 0
unfolding shifted shifted_by
shifted_by-zero zero = refl
shifted_by-zero (suc n) = shifted_by-zero n

pub shifted_by-none : (r : ℕ) → shifted_by 0 r ≡ r
unfolding shifted_by
shifted_by-none r = refl

powers-xor : (es : List ℕ) (a b : ℕ) → powers es (bit_xor a b) ≡ bit_xor (powers es a) (powers es b)
unfolding powers
powers-xor [] a b = refl
powers-xor (e ∷ es) a b =
    ap (λ t. bit_xor t (powers es (bit_xor a b))) (shifted_by-xor (128 * e) a b)
    ∙ ap (bit_xor (bit_xor (shifted_by (128 * e) a) (shifted_by (128 * e) b))) (powers-xor es a b)
    ∙ xor_swap (shifted_by (128 * e) a) (shifted_by (128 * e) b) (powers es a) (powers es b)

shifted_by-swap : (m n r : ℕ) → shifted_by m (shifted_by n r) ≡ shifted_by n (shifted_by m r)
shifted_by-swap m n r =
    let e : n + m ≡ m + n = omega arith in
    sym (shifted_by-add n m r) ∙ ap (λ k. shifted_by k r) e ∙ shifted_by-add m n r

powers-shifted_by : (es : List ℕ) (n r : ℕ) → powers es (shifted_by n r) ≡ shifted_by n (powers es r)
unfolding powers
powers-shifted_by [] n r = sym (shifted_by-zero n)
powers-shifted_by (e ∷ es) n r =
    ap (λ t. bit_xor t (powers es (shifted_by n r))) (shifted_by-swap (128 * e) n r)
    ∙ ap (bit_xor (shifted_by n (shifted_by (128 * e) r))) (powers-shifted_by es n r)
    ∙ sym (shifted_by-xor n (shifted_by (128 * e) r) (powers es r))

powers-zero : (es : List ℕ) → powers es 0 ≡ 0
unfolding powers
powers-zero [] = refl
powers-zero (e ∷ es) = ap (λ t. bit_xor t (powers es 0)) (shifted_by-zero (128 * e)) ∙ ap (bit_xor 0) (powers-zero es)

-- the polynomial 1 is the number 2^31
powers_of_one : powers exponents 0x8000_0000 ≡ 0
unfolding powers shifted shifted_by
powers_of_one = refl

-- what the powers of a double leave, those of its half leave
powers_of_half : (a : ℕ) → powers exponents (a * 2 ^ 1) ≡ 0 → powers exponents a ≡ 0
powers_of_half a e =
    sym (ap (powers exponents) (shifted_by-shl 1 a)) ∙ powers-shifted_by exponents 1 (a * 2 ^ 1) ∙ ap (shifted_by 1) e ∙ shifted_by-zero 1

powers_of_bit : (j k : ℕ) → j + k ≡ 31 → powers exponents (2 ^ k) ≡ 0
powers_of_bit zero k e =
    let last : k ≡ 31 = omega arith in
    ap (λ n. powers exponents (2 ^ n)) last ∙ powers_of_one
powers_of_bit (suc j) k e = powers_of_half (2 ^ k) (ap (powers exponents) (sym (pow-suc 2 k)) ∙ powers_of_bit j (suc k) (omega arith))

pub no_powers : (n r : ℕ) → n ≤ 32 → r < 2 ^ n → powers exponents r ≡ 0
no_powers zero r h small =
    let none : r ≡ 0 = omega (arith, small) in
    ap (powers exponents) none ∙ powers-zero exponents
no_powers (suc n) r h small = go (ltb r (2 ^ n)) refl (no_powers n)
  where
    go : (b : Bool) → ltb r (2 ^ n) ≡ b → ((s : ℕ) → n ≤ 32 → s < 2 ^ n → powers exponents s ≡ 0) → powers exponents r ≡ 0
    go true e before = before r (omega arith) (ltb-true r (2 ^ n) e)
    go false e before =
        let large : 2 ^ n ≤ r = ltb-false r (2 ^ n) e in
        let twice : 2 ^ suc n ≡ 2 ^ n * 2 = pow-suc 2 n in
        let low : r - 2 ^ n < 2 ^ n = omega (arith, small, twice, large) in
        let parts : r ≡ bit_xor (r - 2 ^ n) (1 * 2 ^ n) = omega (arith, large, low_xor_high n (r - 2 ^ n) 1 low) in
        let one : 1 * 2 ^ n ≡ 2 ^ n = omega arith in
        ap (powers exponents) parts
        ∙ powers-xor exponents (r - 2 ^ n) (1 * 2 ^ n)
        ∙ ap (λ t. bit_xor t (powers exponents (1 * 2 ^ n))) (before (r - 2 ^ n) (omega arith) low)
        ∙ ap (bit_xor 0) (ap (powers exponents) one ∙ powers_of_bit (31 - n) n (omega arith))

-- ---- remainders are numbers of 32 bits
shifted-below : (r : ℕ) → r < 2 ^ 32 → shifted r < 2 ^ 32
unfolding shifted
shifted-below r h = xor_lt 32 (r / 2) (r % 2 * 0xEDB8_8320) (omega arith) (omega arith)

pub shifted_by-below : (n r : ℕ) → r < 2 ^ 32 → shifted_by n r < 2 ^ 32
unfolding shifted_by
shifted_by-below zero r h = h
shifted_by-below (suc n) r h = shifted_by-below n (shifted r) (shifted-below r h)

-- ---- sums
pub xor_of_three : (x r y : ℕ) → bit_xor x (bit_xor r y) ≡ 0 → bit_xor x (bit_xor 0 y) ≡ r
xor_of_three x r y e =
    let turned : bit_xor r (bit_xor x y) ≡ 0 =
    sym (xor_assoc r x y) ∙ ap (λ t. bit_xor t y) (xor_comm r x) ∙ xor_assoc x r y ∙ e in
    ap (bit_xor x) (xor_zero_l y)
    ∙ sym (xor_zero_l (bit_xor x y))
    ∙ ap (λ t. bit_xor t (bit_xor x y)) (sym (xor_self r))
    ∙ xor_assoc r r (bit_xor x y)
    ∙ ap (bit_xor r) turned
    ∙ xor_zero_r r

pub xor_undone : (a b : ℕ) → bit_xor (bit_xor a b) b ≡ a
xor_undone a b = xor_assoc a b b ∙ ap (bit_xor a) (xor_self b) ∙ xor_zero_r a

pub xor_self_first : (a b : ℕ) → bit_xor a (bit_xor a b) ≡ b
xor_self_first a b = sym (xor_assoc a a b) ∙ ap (λ t. bit_xor t b) (xor_self a) ∙ xor_zero_l b
