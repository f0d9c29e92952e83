-- Look-ups by the halves of sixteen bytes stay inside their tables, and a product is the sum of two of them.
use Rattle.std.proofs.Common.{◌≡◌, ℕ, zero, suc, [], ◌∷◌, ◌+◌, ◌*◌, ◌/◌, ◌%◌, ◌^◌, ◌<◌, List, length, get_or, replicate, bit_and, bit_xor, refl, sym, ◌∙◌, ap, arith, w8}
use Rattle.std.specs.Int.Bits.{xor_assoc, xor_zero_l, xor_zero_r}
use Rattle.std.proofs.lemmas.Nat.{and_le_r, and_mask, xor_block}
use Rattle.std.proofs.lemmas.Simd.{Each1-all, Each1-weaker, Each1-zip2, Each2-splat, SwzOk, SwzOk-from_below, swz_l, length-zip2, get_or-swz_l_below, get_or-zip2, get_or-replicate}
use lib.Lanes.{zip2, Each1}
use Rattle.gf256.specs.Field.{product}
use Rattle.gf256.specs.Halves.{HasHalves}
use Rattle.gf256.proofs.Products.{product-xor_right}

-- ---- which place of a table each byte looks up
abbrev pub low_halves : List ℕ → List ℕ
low_halves bytes = zip2 bit_and bytes (replicate 16 15)

abbrev pub down : ℕ → ℕ → ℕ
down a b = a / 2 ^ b

abbrev pub high_halves : List ℕ → List ℕ
high_halves bytes = zip2 down bytes (replicate 16 4)

pub length-low_halves : (bytes : List ℕ) → length bytes ≡ 16 → length (low_halves bytes) ≡ 16
length-low_halves bytes long = length-zip2 bit_and bytes (replicate 16 15) long ∙ long

pub length-high_halves : (bytes : List ℕ) → length bytes ≡ 16 → length (high_halves bytes) ≡ 16
length-high_halves bytes long = length-zip2 down bytes (replicate 16 4) long ∙ long

pub low_halves_inside : (bytes : List ℕ) → length bytes ≡ 16 → SwzOk w8 16 16 0 (low_halves bytes)
low_halves_inside bytes long =
    let small = Each1-all (λ a. bit_and a 15 < 16) (λ a. omega (arith, and_le_r a 15)) bytes in
    SwzOk-from_below w8 16 1 16 0 (low_halves bytes) refl (omega (arith, length-low_halves bytes long))
    (Each1-zip2 bit_and (λ j. j < 16) bytes (replicate 16 15) (Each2-splat (λ a b. bit_and a b < 16) bytes 16 15 small))

pub high_halves_inside : (bytes : List ℕ) → length bytes ≡ 16 → Each1 (λ byte. byte < 256) bytes → SwzOk w8 16 16 0 (high_halves bytes)
high_halves_inside bytes long fits =
    let small = Each1-weaker (λ a. a < 256) (λ a. a / 16 < 16) (λ a h. omega arith) bytes fits in
    SwzOk-from_below w8 16 1 16 0 (high_halves bytes) refl (omega (arith, length-high_halves bytes long))
    (Each1-zip2 down (λ j. j < 16) bytes (replicate 16 4) (Each2-splat (λ a b. down a b < 16) bytes 16 4 small))

pub low_half_at : (bytes : List ℕ) (i : ℕ) → length bytes ≡ 16 → i < 16 → get_or (low_halves bytes) i 0 ≡ get_or bytes i 0 % 16
low_half_at bytes i long lt =
    get_or-zip2 bit_and bytes (replicate 16 15) i 0 0 0 (omega arith) lt
    ∙ ap (bit_and (get_or bytes i 0)) (get_or-replicate 16 i 15 0 lt)
    ∙ and_mask (get_or bytes i 0) 4

pub high_half_at : (bytes : List ℕ) (i : ℕ) → length bytes ≡ 16 → i < 16 → get_or (high_halves bytes) i 0 ≡ get_or bytes i 0 / 16
high_half_at bytes i long lt =
    get_or-zip2 down bytes (replicate 16 4) i 0 0 0 (omega arith) lt
    ∙ ap (down (get_or bytes i 0)) (get_or-replicate 16 i 4 0 lt)

-- ---- what is found there
pub low_found : (table bytes : List ℕ) (i : ℕ) → length bytes ≡ 16 → i < 16 → get_or (swz_l w8 16 table 0 (low_halves bytes)) i 0 ≡ get_or table (get_or bytes i 0 % 16) 0
low_found table bytes i long lt =
    let at = low_half_at bytes i long lt in
    let whole = length-low_halves bytes long in
    get_or-swz_l_below w8 16 table 0 (low_halves bytes) i (omega arith) (omega arith)
    ∙ ap (λ k. get_or table k 0) (omega arith)

pub high_found : (table bytes : List ℕ) (i : ℕ) → length bytes ≡ 16 → i < 16 → get_or bytes i 0 < 256 → get_or (swz_l w8 16 table 0 (high_halves bytes)) i 0 ≡ get_or table (get_or bytes i 0 / 16) 0
high_found table bytes i long lt small =
    let at = high_half_at bytes i long lt in
    let whole = length-high_halves bytes long in
    get_or-swz_l_below w8 16 table 0 (high_halves bytes) i (omega arith) (omega arith)
    ∙ ap (λ k. get_or table k 0) (omega arith)

-- ---- a product by its halves
pub halves_sum : (b : ℕ) → b < 256 → bit_xor (b % 16) (16 * (b / 16)) ≡ b
halves_sum b p =
    let step : bit_xor (0 * 2 ^ 4 + b % 16) (b / 16 * 2 ^ 4 + 0) ≡ bit_xor 0 (b / 16) * 2 ^ 4 + bit_xor (b % 16) 0 = xor_block 4 0 (b / 16) (b % 16) 0 (omega arith) (omega arith) in
    let left : 0 * 16 + b % 16 ≡ b % 16 = omega arith in
    let right : b / 16 * 16 + 0 ≡ 16 * (b / 16) = omega arith in
    let whole : (b / 16) * 16 + b % 16 ≡ b = omega arith in
    ap (λ x. bit_xor x (16 * (b / 16))) (sym left)
    ∙ ap (bit_xor (0 * 16 + b % 16)) (sym right)
    ∙ step
    ∙ ap (λ x. x * 16 + bit_xor (b % 16) 0) (xor_zero_l (b / 16))
    ∙ ap (λ x. b / 16 * 16 + x) (xor_zero_r (b % 16))
    ∙ whole

pub product_by_halves : (factor b : ℕ) → b < 256 → bit_xor (product factor (b % 16)) (product factor (16 * (b / 16))) ≡ product factor b
product_by_halves factor b p = sym (product-xor_right factor (b % 16) (16 * (b / 16))) ∙ ap (product factor) (halves_sum b p)

pub product_found : (factor b : ℕ) (low high : List ℕ) → HasHalves factor low high → b < 256 → bit_xor (get_or low (b % 16) 0) (get_or high (b / 16) 0) ≡ product factor b
product_found factor b low high has small =
    ap (λ x. bit_xor x (get_or high (b / 16) 0)) (has.low_is (b % 16) (omega arith))
    ∙ ap (bit_xor (product factor (b % 16))) (has.high_is (b / 16) (omega arith))
    ∙ product_by_halves factor b small

-- ---- lanes
pub lane_below : (bytes : List ℕ) (i : ℕ) → Each1 (λ byte. byte < 256) bytes → get_or bytes i 0 < 256
lane_below [] i fits = omega arith
lane_below (byte ∷ bytes) zero fits = fits.0
lane_below (byte ∷ bytes) (suc i) fits = lane_below bytes i fits.1

-- a sum with what both halves find has the product added
pub lane_sum : (factor i : ℕ) (low high bytes sums left right : List ℕ) → HasHalves factor low high → length sums ≡ 16 → length left ≡ 16 → length right ≡ 16
    → i < 16 → get_or bytes i 0 < 256 → get_or left i 0 ≡ get_or low (get_or bytes i 0 % 16) 0 → get_or right i 0 ≡ get_or high (get_or bytes i 0 / 16) 0
    → get_or (zip2 bit_xor (zip2 bit_xor sums left) right) i 0 ≡ bit_xor (get_or sums i 0) (product factor (get_or bytes i 0))
lane_sum factor i low high bytes sums left right halves s l r lt small e f =
    let b = get_or bytes i 0 in
    let t = get_or sums i 0 in
    let inner = length-zip2 bit_xor sums left (omega arith) in
    get_or-zip2 bit_xor (zip2 bit_xor sums left) right i 0 0 0 (omega arith) (omega arith)
    ∙ ap (λ x. bit_xor x (get_or right i 0)) (get_or-zip2 bit_xor sums left i 0 0 0 (omega arith) (omega arith))
    ∙ ap (λ x. bit_xor (bit_xor t x) (get_or right i 0)) (e ∙ halves.low_is (b % 16) (omega arith))
    ∙ ap (bit_xor (bit_xor t (product factor (b % 16)))) (f ∙ halves.high_is (b / 16) (omega arith))
    ∙ xor_assoc t (product factor (b % 16)) (product factor (16 * (b / 16)))
    ∙ ap (bit_xor t) (product_by_halves factor b small)
