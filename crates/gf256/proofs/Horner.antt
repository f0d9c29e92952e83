-- `times_x` and `horner`, by which a product is computed, and how they go with sums.
use Rattle.std.proofs.Common.{◌≡◌, ℕ, zero, suc, ◌+◌, ◌-◌, ◌*◌, ◌/◌, ◌%◌, ◌^◌, ◌<◌, bit_xor, refl, sym, ◌∙◌, ap, arith}
use Rattle.std.specs.Int.Bits.{xor_self, xor_zero_l, xor_zero_r}
use Rattle.std.proofs.lemmas.Nat.{xor_shr, xor_mod, xor_block}
use Rattle.gf256.specs.Field.{times_coefficient, times_x, horner}
use Rattle.gf256.proofs.Xor.{xor_swap, xor-half, xor-parity, double-xor, xor_byte}

-- ---- `times_coefficient`
pub times_coefficient-zero : (s : ℕ) → times_coefficient s 0 ≡ 0
times_coefficient-zero zero = refl
times_coefficient-zero (suc _) = refl

pub times_coefficient-xor : (s a b : ℕ) → times_coefficient s (bit_xor a b) ≡ bit_xor (times_coefficient s a) (times_coefficient s b)
times_coefficient-xor zero a b = refl
times_coefficient-xor (suc _) a b = refl

pub times_coefficient-sum : (s t b : ℕ) → s < 2 → t < 2 → times_coefficient (bit_xor s t) b ≡ bit_xor (times_coefficient s b) (times_coefficient t b)
times_coefficient-sum zero t b p q = ap (λ x. times_coefficient x b) (xor_zero_l t) ∙ sym (xor_zero_l (times_coefficient t b))
times_coefficient-sum (suc zero) zero b p q = sym (xor_zero_r b)
times_coefficient-sum (suc zero) (suc zero) b p q = sym (xor_self b)
times_coefficient-sum (suc zero) (suc (suc t)) b p q = absurd (omega arith)
times_coefficient-sum (suc (suc s)) t b p q = absurd (omega arith)

pub times_coefficient-below : (s b k : ℕ) → 0 < k → b < k → times_coefficient s b < k
times_coefficient-below zero b k p q = p
times_coefficient-below (suc _) b k p q = q

-- ---- `times_x`
pub times_x-zero : times_x 0 ≡ 0
unfolding times_x
times_x-zero = refl

pub times_x-below : (a : ℕ) → times_x a < 256
unfolding times_x
times_x-below a = xor_byte (2 * (a % 128)) (times_coefficient (a / 128 % 2) 29) (omega arith) (times_coefficient-below (a / 128 % 2) 29 256 (omega arith) (omega arith))

pub times_x-small : (a : ℕ) → a < 128 → times_x a ≡ 2 * a
unfolding times_x
times_x-small a p =
    let low : a % 128 ≡ a = omega arith in
    let high : a / 128 % 2 ≡ 0 = omega arith in
    rw (low, high) (xor_zero_r (2 * a))

pub times_x-xor : (a b : ℕ) → times_x (bit_xor a b) ≡ bit_xor (times_x a) (times_x b)
unfolding times_x
times_x-xor a b =
    let low : bit_xor a b % 128 ≡ bit_xor (a % 128) (b % 128) = xor_mod a b 7 in
    let high : bit_xor a b / 128 % 2 ≡ bit_xor (a / 128 % 2) (b / 128 % 2) = ap (λ x. x % 2) (xor_shr a b 7) ∙ xor-parity (a / 128) (b / 128) in
    ap (λ x. bit_xor (2 * x) (times_coefficient (bit_xor a b / 128 % 2) 29)) low
    ∙ ap (λ x. bit_xor (2 * bit_xor (a % 128) (b % 128)) (times_coefficient x 29)) high
    ∙ ap (λ x. bit_xor x (times_coefficient (bit_xor (a / 128 % 2) (b / 128 % 2)) 29)) (double-xor (a % 128) (b % 128))
    ∙ ap (bit_xor (bit_xor (2 * (a % 128)) (2 * (b % 128)))) (times_coefficient-sum (a / 128 % 2) (b / 128 % 2) 29 (omega arith) (omega arith))
    ∙ xor_swap (2 * (a % 128)) (2 * (b % 128)) (times_coefficient (a / 128 % 2) 29) (times_coefficient (b / 128 % 2) 29)

pub times_coefficient-times_x : (s a : ℕ) → times_coefficient s (times_x a) ≡ times_x (times_coefficient s a)
times_coefficient-times_x zero a = sym times_x-zero
times_coefficient-times_x (suc _) a = refl

-- ---- `horner`
pub horner-below : (n a b : ℕ) → b < 256 → horner n a b < 256
unfolding horner
horner-below zero a b p = omega arith
horner-below (suc n) a b p = xor_byte (times_coefficient (a % 2) b) (times_x (horner n (a / 2) b)) (times_coefficient-below (a % 2) b 256 (omega arith) p) (times_x-below (horner n (a / 2) b))

pub horner-left_zero : (n b : ℕ) → horner n 0 b ≡ 0
unfolding horner
horner-left_zero zero b = refl
horner-left_zero (suc n) b = ap (λ x. bit_xor 0 (times_x x)) (horner-left_zero n b) ∙ ap (bit_xor 0) times_x-zero

pub horner-right_zero : (n a : ℕ) → horner n a 0 ≡ 0
unfolding horner
horner-right_zero zero a = refl
horner-right_zero (suc n) a =
    ap (λ x. bit_xor x (times_x (horner n (a / 2) 0))) (times_coefficient-zero (a % 2))
    ∙ ap (λ x. bit_xor 0 (times_x x)) (horner-right_zero n (a / 2))
    ∙ ap (bit_xor 0) times_x-zero

pub horner-xor_right : (n a b c : ℕ) → horner n a (bit_xor b c) ≡ bit_xor (horner n a b) (horner n a c)
unfolding horner
horner-xor_right zero a b c = refl
horner-xor_right (suc n) a b c =
    ap (λ x. bit_xor x (times_x (horner n (a / 2) (bit_xor b c)))) (times_coefficient-xor (a % 2) b c)
    ∙ ap (bit_xor (bit_xor (times_coefficient (a % 2) b) (times_coefficient (a % 2) c))) (ap times_x (horner-xor_right n (a / 2) b c) ∙ times_x-xor (horner n (a / 2) b) (horner n (a / 2) c))
    ∙ xor_swap (times_coefficient (a % 2) b) (times_coefficient (a % 2) c) (times_x (horner n (a / 2) b)) (times_x (horner n (a / 2) c))

pub horner-xor_left : (n a b c : ℕ) → horner n (bit_xor a b) c ≡ bit_xor (horner n a c) (horner n b c)
unfolding horner
horner-xor_left zero a b c = refl
horner-xor_left (suc n) a b c =
    ap (λ x. bit_xor (times_coefficient x c) (times_x (horner n (bit_xor a b / 2) c))) (xor-parity a b)
    ∙ ap (λ x. bit_xor x (times_x (horner n (bit_xor a b / 2) c))) (times_coefficient-sum (a % 2) (b % 2) c (omega arith) (omega arith))
    ∙ ap (λ x. bit_xor (bit_xor (times_coefficient (a % 2) c) (times_coefficient (b % 2) c)) (times_x x)) (ap (λ x. horner n x c) (xor-half a b) ∙ horner-xor_left n (a / 2) (b / 2) c)
    ∙ ap (bit_xor (bit_xor (times_coefficient (a % 2) c) (times_coefficient (b % 2) c))) (times_x-xor (horner n (a / 2) c) (horner n (b / 2) c))
    ∙ xor_swap (times_coefficient (a % 2) c) (times_coefficient (b % 2) c) (times_x (horner n (a / 2) c)) (times_x (horner n (b / 2) c))

pub horner-times_x : (n a b : ℕ) → horner n a (times_x b) ≡ times_x (horner n a b)
unfolding horner
horner-times_x zero a b = sym times_x-zero
horner-times_x (suc n) a b =
    ap (λ x. bit_xor x (times_x (horner n (a / 2) (times_x b)))) (times_coefficient-times_x (a % 2) b)
    ∙ ap (λ x. bit_xor (times_x (times_coefficient (a % 2) b)) (times_x x)) (horner-times_x n (a / 2) b)
    ∙ sym (times_x-xor (times_coefficient (a % 2) b) (times_x (horner n (a / 2) b)))

-- a number by its lowest coefficient and the rest
pub halves : (a : ℕ) → a < 256 → bit_xor (a % 2) (times_x (a / 2)) ≡ a
halves a p =
    let step : bit_xor (0 * 2 ^ 1 + a % 2) (a / 2 * 2 ^ 1 + 0) ≡ bit_xor 0 (a / 2) * 2 ^ 1 + bit_xor (a % 2) 0 = xor_block 1 0 (a / 2) (a % 2) 0 (omega arith) (omega arith) in
    let left : 0 * 2 + a % 2 ≡ a % 2 = omega arith in
    let right : a / 2 * 2 + 0 ≡ 2 * (a / 2) = omega arith in
    let whole : (a / 2) * 2 + a % 2 ≡ a = omega arith in
    ap (bit_xor (a % 2)) (times_x-small (a / 2) (omega arith))
    ∙ ap (λ x. bit_xor x (2 * (a / 2))) (sym left)
    ∙ ap (bit_xor (0 * 2 + a % 2)) (sym right)
    ∙ step
    ∙ ap (λ x. x * 2 + bit_xor (a % 2) 0) (xor_zero_l (a / 2))
    ∙ ap (λ x. a / 2 * 2 + x) (xor_zero_r (a % 2))
    ∙ whole

pub times_coefficient-one : (a : ℕ) → times_coefficient (a % 2) 1 ≡ a % 2
times_coefficient-one a = go (a % 2) (omega arith)
  where
    go : (s : ℕ) → s < 2 → times_coefficient s 1 ≡ s
    go zero p = refl
    go (suc zero) p = refl
    go (suc (suc s)) p = absurd (omega arith)

pub horner-one : (n a : ℕ) → a < 2 ^ n → a < 256 → horner n a 1 ≡ a
unfolding horner
horner-one zero a p q = omega (arith, p)
horner-one (suc n) a p q =
    let small : a / 2 < 2 ^ n = omega (arith, p) in
    ap (λ x. bit_xor x (times_x (horner n (a / 2) 1))) (times_coefficient-one a)
    ∙ ap (λ x. bit_xor (a % 2) (times_x x)) (horner-one n (a / 2) small (omega arith))
    ∙ halves a q
