-- The laws of `product`, `inverse_of` and `power_of`.
use Rattle.std.proofs.Common.{◌≡◌, ℕ, zero, suc, ◌+◌, ◌/◌, ◌%◌, ◌^◌, ◌<◌, bit_xor, refl, sym, ◌∙◌, ap, arith}
use Rattle.gf256.specs.Field.{times_coefficient, times_x, horner, product, power_of}
use Rattle.gf256.proofs.Xor.{xor_low_byte}
use Rattle.gf256.proofs.Horner.{times_x-below, horner-below, horner-left_zero, horner-right_zero, horner-xor_right, horner-xor_left, horner-times_x, horner-one, halves}

times_coefficient_as_horner : (s b : ℕ) → s < 2 → b < 256 → times_coefficient s b ≡ horner 8 b s
times_coefficient_as_horner zero b p q = sym (horner-right_zero 8 b)
times_coefficient_as_horner (suc zero) b p q = sym (horner-one 8 b q q)
times_coefficient_as_horner (suc (suc s)) b p q = absurd (omega arith)

-- of two bytes
horner_comm : (n a b : ℕ) → a < 2 ^ n → a < 256 → b < 256 → horner n a b ≡ horner 8 b a
unfolding horner
horner_comm zero a b p q r =
    let none : a ≡ 0 = omega (arith, p) in
    sym (horner-right_zero 8 b) ∙ ap (horner 8 b) (sym none)
horner_comm (suc n) a b p q r =
    let small : a / 2 < 2 ^ n = omega (arith, p) in
    ap (λ x. bit_xor x (times_x (horner n (a / 2) b))) (times_coefficient_as_horner (a % 2) b (omega arith) r)
    ∙ ap (λ x. bit_xor (horner 8 b (a % 2)) (times_x x)) (horner_comm n (a / 2) b small (omega arith) r)
    ∙ ap (bit_xor (horner 8 b (a % 2))) (sym (horner-times_x 8 b (a / 2)))
    ∙ sym (horner-xor_right 8 b (a % 2) (times_x (a / 2)))
    ∙ ap (horner 8 b) (halves a q)

horner-times_x_left : (m c : ℕ) → m < 256 → c < 256 → horner 8 (times_x m) c ≡ times_x (horner 8 m c)
horner-times_x_left m c p q =
    horner_comm 8 (times_x m) c (times_x-below m) (times_x-below m) q
    ∙ horner-times_x 8 c m
    ∙ ap times_x (horner_comm 8 c m q q p)

horner-times_coefficient_left : (s b c : ℕ) → horner 8 (times_coefficient s b) c ≡ times_coefficient s (horner 8 b c)
horner-times_coefficient_left zero b c = horner-left_zero 8 c
horner-times_coefficient_left (suc _) b c = refl

horner_assoc : (n a b c : ℕ) → b < 256 → c < 256 → horner 8 (horner n a b) c ≡ horner n a (horner 8 b c)
unfolding horner
horner_assoc zero a b c p q = horner-left_zero 8 c
horner_assoc (suc n) a b c p q =
    horner-xor_left 8 (times_coefficient (a % 2) b) (times_x (horner n (a / 2) b)) c
    ∙ ap (λ x. bit_xor x (horner 8 (times_x (horner n (a / 2) b)) c)) (horner-times_coefficient_left (a % 2) b c)
    ∙ ap (bit_xor (times_coefficient (a % 2) (horner 8 b c))) (horner-times_x_left (horner n (a / 2) b) c (horner-below n (a / 2) b p) q)
    ∙ ap (λ x. bit_xor (times_coefficient (a % 2) (horner 8 b c)) (times_x x)) (horner_assoc n (a / 2) b c p q)

low_byte : (a : ℕ) → a % 256 < 256
low_byte a = omega arith

byte-low_byte : (a : ℕ) → a < 256 → a % 256 ≡ a
byte-low_byte a p = omega arith

-- ---- `product`
pub product-below : (a b : ℕ) → product a b < 256
unfolding product
product-below a b = horner-below 8 (a % 256) (b % 256) (low_byte b)

pub product_comm : (a b : ℕ) → product a b ≡ product b a
unfolding product
product_comm a b = horner_comm 8 (a % 256) (b % 256) (low_byte a) (low_byte a) (low_byte b)

pub product_assoc : (a b c : ℕ) → product (product a b) c ≡ product a (product b c)
unfolding product
product_assoc a b c =
    ap (λ x. horner 8 x (c % 256)) (byte-low_byte (horner 8 (a % 256) (b % 256)) (horner-below 8 (a % 256) (b % 256) (low_byte b)))
    ∙ horner_assoc 8 (a % 256) (b % 256) (c % 256) (low_byte b) (low_byte c)
    ∙ ap (horner 8 (a % 256)) (sym (byte-low_byte (horner 8 (b % 256) (c % 256)) (horner-below 8 (b % 256) (c % 256) (low_byte c))))

pub product-xor_left : (a b c : ℕ) → product (bit_xor a b) c ≡ bit_xor (product a c) (product b c)
unfolding product
product-xor_left a b c =
    ap (λ x. horner 8 x (c % 256)) (xor_low_byte a b)
    ∙ horner-xor_left 8 (a % 256) (b % 256) (c % 256)

pub product-xor_right : (a b c : ℕ) → product a (bit_xor b c) ≡ bit_xor (product a b) (product a c)
unfolding product
product-xor_right a b c =
    ap (horner 8 (a % 256)) (xor_low_byte b c)
    ∙ horner-xor_right 8 (a % 256) (b % 256) (c % 256)

pub product-zero_left : (b : ℕ) → product 0 b ≡ 0
unfolding product
product-zero_left b = horner-left_zero 8 (b % 256)

pub product-zero_right : (a : ℕ) → product a 0 ≡ 0
unfolding product
product-zero_right a = horner-right_zero 8 (a % 256)

pub product-one_right : (a : ℕ) → a < 256 → product a 1 ≡ a
unfolding product
product-one_right a p = horner-one 8 (a % 256) (low_byte a) (low_byte a) ∙ byte-low_byte a p

pub product-one_left : (a : ℕ) → a < 256 → product 1 a ≡ a
product-one_left a p = product_comm 1 a ∙ product-one_right a p

pub product_swap : (a b c d : ℕ) → product (product a b) (product c d) ≡ product (product a c) (product b d)
product_swap a b c d =
    product_assoc a b (product c d)
    ∙ ap (product a) (sym (product_assoc b c d) ∙ ap (λ x. product x d) (product_comm b c) ∙ product_assoc c b d)
    ∙ sym (product_assoc a c (product b d))

-- ---- `power_of`
pub power_of-below : (a k : ℕ) → power_of a k < 256
unfolding power_of
power_of-below a zero = omega arith
power_of-below a (suc k) = product-below a (power_of a k)

pub power_of-twice : (a k : ℕ) → power_of a (k + k) ≡ power_of (product a a) k
unfolding power_of
power_of-twice a zero = refl
power_of-twice a (suc k) =
    let more : suc k + suc k ≡ suc (suc (k + k)) = omega arith in
    ap (power_of a) more
    ∙ sym (product_assoc a a (power_of a (k + k)))
    ∙ ap (product (product a a)) (power_of-twice a k)

pub power_of-even : (a k : ℕ) → k % 2 ≡ 0 → power_of a k ≡ power_of (product a a) (k / 2)
power_of-even a k e =
    let whole : k ≡ k / 2 + k / 2 = omega arith in
    ap (power_of a) whole ∙ power_of-twice a (k / 2)

pub power_of-odd : (a k : ℕ) → k % 2 ≡ 1 → power_of a k ≡ product a (power_of (product a a) (k / 2))
unfolding power_of
power_of-odd a k e =
    let whole : k ≡ suc (k / 2 + k / 2) = omega arith in
    ap (power_of a) whole ∙ ap (product a) (power_of-twice a (k / 2))
