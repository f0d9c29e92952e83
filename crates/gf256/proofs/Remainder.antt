-- `product` is the only byte with `IsProduct`.
use Rattle.std.proofs.Common.{◌≡◌, ℕ, zero, suc, ◌+◌, ◌-◌, ◌*◌, ◌/◌, ◌%◌, ◌^◌, ◌<◌, ◌≤◌, bit_xor, refl, sym, ◌∙◌, ap, arith, Bool, true, ◌&&◌}
use Rattle.std.specs.Prelude.{◌==◌}
use Rattle.std.specs.Int.Bits.{xor_assoc, xor_zero_l}
use Rattle.std.proofs.lemmas.Nat.{xor_comm}
use Rattle.std.proofs.lemmas.Bool.Decides.{Decides-below_and, Decides-eqb}
use Rattle.std.proofs.Math.Nat.{pow-le-pow_right}
use Rattle.gf256.specs.Field.{times_coefficient, carryless, modulus, IsProduct, times_x, horner, product}
use Rattle.gf256.proofs.Xor.{xor_cancel, xor_left_same, same_from_xor, double-xor}
use Rattle.gf256.proofs.Horner.{times_x-zero, horner-below, horner-left_zero, horner-xor_left, horner-one}
use Rattle.gf256.proofs.Products.{product-below}

-- a test of each number below n
abbrev pub all_below : (ℕ → Bool) → ℕ → Bool
all_below test zero = true
all_below test (suc n) = test n && all_below test n

pub equal_below : (f g : ℕ → ℕ) (n : ℕ) → all_below (λ k. f k == g k) n ≡ true → (k : ℕ) → k < n → f k ≡ g k
equal_below f g n h =
    (Decides-below_and (λ k. f k == g k) (λ k. f k ≡ g k) (all_below (λ k. f k == g k)) (λ k. Decides-eqb (f k) (g k)) refl (λ _. refl) n).0 h

-- what is left of twice a byte differs from it by the modulus where the byte's bit 7 is 1
times_x_as_remainder : (m : ℕ) → m < 256 → bit_xor (2 * m) (times_x m) ≡ times_coefficient (m / 128 % 2) modulus
unfolding times_x
times_x_as_remainder = equal_below (λ m. bit_xor (2 * m) (times_x m)) (λ m. times_coefficient (m / 128 % 2) modulus) 256 refl

-- the polynomial that, times the modulus, leads from the product as polynomials to the product
factor_of : ℕ → ℕ → ℕ → ℕ
factor_of zero a b = 0
factor_of (suc n) a b = horner n (a / 2) b / 128 % 2 + 2 * factor_of n (a / 2) b

carryless-factor : (n t q : ℕ) → t < 2 → carryless (suc n) (t + 2 * q) modulus ≡ bit_xor (times_coefficient t modulus) (2 * carryless n q modulus)
carryless-factor n t q p =
    let low : (t + 2 * q) % 2 ≡ t = omega arith in
    let high : (t + 2 * q) / 2 ≡ q = omega arith in
    ap (λ x. bit_xor (times_coefficient x modulus) (2 * carryless n ((t + 2 * q) / 2) modulus)) low
    ∙ ap (λ x. bit_xor (times_coefficient t modulus) (2 * carryless n x modulus)) high

double_as_sum : (c h : ℕ) → h < 256 → bit_xor (2 * c) (times_x h) ≡ bit_xor (times_coefficient (h / 128 % 2) modulus) (2 * bit_xor c h)
double_as_sum c h p =
    ap (bit_xor (2 * c)) (sym (xor_cancel (2 * h) (times_x h)) ∙ ap (bit_xor (2 * h)) (times_x_as_remainder h p))
    ∙ sym (xor_assoc (2 * c) (2 * h) (times_coefficient (h / 128 % 2) modulus))
    ∙ ap (λ x. bit_xor x (times_coefficient (h / 128 % 2) modulus)) (sym (double-xor c h))
    ∙ xor_comm (2 * bit_xor c h) (times_coefficient (h / 128 % 2) modulus)

horner_as_remainder : (n a b : ℕ) → b < 256 → bit_xor (carryless n a b) (horner n a b) ≡ carryless n (factor_of n a b) modulus
unfolding horner factor_of
horner_as_remainder zero a b p = refl
horner_as_remainder (suc n) a b p =
    xor_left_same (times_coefficient (a % 2) b) (2 * carryless n (a / 2) b) (times_x (horner n (a / 2) b))
    ∙ double_as_sum (carryless n (a / 2) b) (horner n (a / 2) b) (horner-below n (a / 2) b p)
    ∙ ap (λ x. bit_xor (times_coefficient (horner n (a / 2) b / 128 % 2) modulus) (2 * x)) (horner_as_remainder n (a / 2) b p)
    ∙ sym (carryless-factor n (horner n (a / 2) b / 128 % 2) (factor_of n (a / 2) b) (omega arith))

pub product_of_bytes : (a b : ℕ) → a < 256 → b < 256 → product a b ≡ horner 8 a b
unfolding product
product_of_bytes a b p q =
    let left : a % 256 ≡ a = omega arith in
    let right : b % 256 ≡ b = omega arith in
    ap (λ x. horner 8 x (b % 256)) left ∙ ap (horner 8 a) right

pub product_is_product : (a b : ℕ) → a < 256 → b < 256 → IsProduct a b (product a b)
product_is_product a b p q =
    (product-below a b, (8, factor_of 8 a b, ap (bit_xor (carryless 8 a b)) (product_of_bytes a b p q) ∙ horner_as_remainder 8 a b q))

-- ---- the remainder of a polynomial of k coefficients, `horner k c 1`, is 0 at multiples of the modulus
remainder_of_byte : (k p : ℕ) → 8 ≤ k → p < 256 → horner k p 1 ≡ p
remainder_of_byte k p h q =
    let most : 2 ^ 8 ≤ 2 ^ k = pow-le-pow_right (omega arith) h in
    horner-one k p (omega (arith, most, q)) q

remainder_of_double : (k s c : ℕ) → horner (suc k) (bit_xor s (2 * c)) 1 ≡ bit_xor (horner (suc k) s 1) (times_x (horner k c 1))
unfolding horner
remainder_of_double k s c =
    let low : 2 * c % 2 ≡ 0 = omega arith in
    let high : 2 * c / 2 ≡ c = omega arith in
    let doubled : horner (suc k) (2 * c) 1 ≡ times_x (horner k c 1) =
    ap (λ x. bit_xor (times_coefficient x 1) (times_x (horner k (2 * c / 2) 1))) low
    ∙ xor_zero_l (times_x (horner k (2 * c / 2) 1))
    ∙ ap (λ x. times_x (horner k x 1)) high in
    horner-xor_left (suc k) s (2 * c) 1 ∙ ap (bit_xor (horner (suc k) s 1)) doubled

times_coefficient_byte : (s b : ℕ) → b < 256 → times_coefficient s b < 256
times_coefficient_byte zero b p = omega arith
times_coefficient_byte (suc _) b p = p

remainder_of_product : (k n a b : ℕ) → n + 8 ≤ k → b < 256 → horner k (carryless n a b) 1 ≡ horner n a b
unfolding horner
remainder_of_product k zero a b h p = horner-left_zero k 1
remainder_of_product zero (suc n) a b h p = absurd (omega arith)
remainder_of_product (suc k) (suc n) a b h p =
    remainder_of_double k (times_coefficient (a % 2) b) (carryless n (a / 2) b)
    ∙ ap (λ x. bit_xor x (times_x (horner k (carryless n (a / 2) b) 1))) (remainder_of_byte (suc k) (times_coefficient (a % 2) b) (omega arith) (times_coefficient_byte (a % 2) b p))
    ∙ ap (λ x. bit_xor (times_coefficient (a % 2) b) (times_x x)) (remainder_of_product k n (a / 2) b (omega arith) p)

nine_more : ℕ → ℕ
nine_more k = suc (suc (suc (suc (suc (suc (suc (suc (suc k))))))))

remainder_of_modulus' : (k : ℕ) → horner (nine_more k) modulus 1 ≡ 0
unfolding horner times_x nine_more
remainder_of_modulus' k = rw (horner-left_zero k 1) refl

remainder_of_modulus : (k : ℕ) → 9 ≤ k → horner k modulus 1 ≡ 0
unfolding nine_more
remainder_of_modulus k h =
    let more : k ≡ nine_more (k - 9) = omega arith in
    ap (λ x. horner x modulus 1) more ∙ remainder_of_modulus' (k - 9)

remainder_of_coefficient : (k s : ℕ) → 9 ≤ k → horner k (times_coefficient s modulus) 1 ≡ 0
remainder_of_coefficient k zero h = horner-left_zero k 1
remainder_of_coefficient k (suc _) h = remainder_of_modulus k h

remainder_of_multiple : (k n q : ℕ) → n + 9 ≤ k → horner k (carryless n q modulus) 1 ≡ 0
remainder_of_multiple k zero q h = horner-left_zero k 1
remainder_of_multiple zero (suc n) q h = absurd (omega arith)
remainder_of_multiple (suc k) (suc n) q h =
    remainder_of_double k (times_coefficient (q % 2) modulus) (carryless n (q / 2) modulus)
    ∙ ap (λ x. bit_xor x (times_x (horner k (carryless n (q / 2) modulus) 1))) (remainder_of_coefficient (suc k) (q % 2) (omega arith))
    ∙ ap (λ x. bit_xor 0 (times_x x)) (remainder_of_multiple k n (q / 2) (omega arith))
    ∙ ap (bit_xor 0) times_x-zero

pub only_product : (a b p : ℕ) → a < 256 → b < 256 → IsProduct a b p → p ≡ product a b
only_product a b p q r h =
    let k : ℕ = h.1.0 + 17 in
    let left : horner (h.1.0 + 17) (bit_xor (carryless 8 a b) p) 1 ≡ bit_xor (horner 8 a b) p =
    horner-xor_left (h.1.0 + 17) (carryless 8 a b) p 1
    ∙ ap (λ x. bit_xor x (horner (h.1.0 + 17) p 1)) (remainder_of_product (h.1.0 + 17) 8 a b (omega arith) r)
    ∙ ap (bit_xor (horner 8 a b)) (remainder_of_byte (h.1.0 + 17) p (omega arith) h.0) in
    let right : horner (h.1.0 + 17) (bit_xor (carryless 8 a b) p) 1 ≡ 0 =
    ap (λ x. horner (h.1.0 + 17) x 1) h.1.2 ∙ remainder_of_multiple (h.1.0 + 17) h.1.0 h.1.1 (omega arith) in
    sym (same_from_xor (horner 8 a b) p (sym left ∙ right)) ∙ sym (product_of_bytes a b q r)
