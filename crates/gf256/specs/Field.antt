-- The field of 256 elements. A number stands for the polynomial over two values whose coefficient at
-- x^k is the number's bit k, so a byte is a polynomial of degree below 8, and a sum is an xor.
use Rattle.std.specs.Prelude.{◌≡◌, ℕ, zero, suc, ◌*◌, ◌/◌, ◌%◌, ◌<◌, ◌==◌, if◌then◌else◌, List, [], ◌∷◌, bit_xor}

-- b times a coefficient, 0 or 1
abbrev pub times_coefficient : ℕ → ℕ → ℕ
times_coefficient zero b = 0
times_coefficient (suc _) b = b

-- the product of two polynomials: a's lowest n coefficients are counted, and nothing is reduced
abbrev pub carryless : ℕ → ℕ → ℕ → ℕ
carryless zero a b = 0
carryless (suc n) a b = bit_xor (times_coefficient (a % 2) b) (2 * carryless n (a / 2) b)

-- x^8 + x^4 + x^3 + x^2 + 1
abbrev pub modulus : ℕ
modulus = 0x11D

-- some polynomial times the modulus
abbrev pub IsMultipleOfModulus : ℕ → Type 0
IsMultipleOfModulus c = (n : ℕ) × (factor : ℕ) × (c ≡ carryless n factor modulus)

-- p is the product of the bytes a and b in the field: the byte that differs from their product as
-- polynomials by a multiple of the modulus
abbrev pub IsProduct : ℕ → ℕ → ℕ → Type 0
IsProduct a b p = (p < 256) × IsMultipleOfModulus (bit_xor (carryless 8 a b) p)

-- a byte times the polynomial x, where x^8 gives way to x^4 + x^3 + x^2 + 1
unfoldable pub times_x : ℕ → ℕ
times_x a = bit_xor (2 * (a % 128)) (times_coefficient (a / 128 % 2) 0x1D)

-- the sum of b times x^k over the lowest n coefficients of a that are 1
unfoldable pub horner : ℕ → ℕ → ℕ → ℕ
horner zero a b = 0
horner (suc n) a b = bit_xor (times_coefficient (a % 2) b) (times_x (horner n (a / 2) b))

-- the one p with `IsProduct a b p`, as the law `product_is_the_only_one` says; of a number above a
-- byte the lowest 8 bits count
unfoldable pub product : ℕ → ℕ → ℕ
product a b = horner 8 (a % 256) (b % 256)

-- the greatest number below n whose product with a is 1, or 0
unfoldable pub inverse_below : ℕ → ℕ → ℕ
inverse_below zero a = 0
inverse_below (suc n) a = if product a n == 1 then n else inverse_below n a

-- the byte whose product with a is 1; 0 for 0, which has none
unfoldable pub inverse_of : ℕ → ℕ
inverse_of a = inverse_below 256 a

-- a multiplied k times into 1
unfoldable pub power_of : ℕ → ℕ → ℕ
power_of a zero = 1
power_of a (suc k) = product a (power_of a k)

-- each byte of out with the product of factor and the byte of src at its place added
abbrev pub plus_scaled : List ℕ → ℕ → List ℕ → List ℕ
plus_scaled [] factor _ = []
plus_scaled (o ∷ out) factor [] = o ∷ out
plus_scaled (o ∷ out) factor (s ∷ src) = bit_xor o (product factor s) ∷ plus_scaled out factor src
