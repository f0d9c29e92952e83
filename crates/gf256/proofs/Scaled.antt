-- `plus_scaled`, place by place.
use Rattle.std.proofs.Common.{◌≡◌, ℕ, zero, suc, ◌+◌, ◌-◌, ◌*◌, ◌/◌, ◌%◌, ◌<◌, ◌≤◌, Bool, true, false, ltb, List, [], ◌∷◌, length, get_or, set, bit_xor, refl, sym, ◌∙◌, ap, arith, length-set, get_or-set_other}
use Rattle.std.proofs.lemmas.Bool.{ltb-true, ltb-false}
use Rattle.std.proofs.lemmas.Grind.{get_or-set_at}
use Rattle.std.proofs.lemmas.Simd.{length-put_chunk, get_or-put_chunk_below, get_or-put_chunk_at, get_or-put_chunk_above}
use lib.Lanes.{put_chunk}
use Rattle.gf256.specs.Halves.{HasHalves, AddsProducts}
use Rattle.gf256.specs.Sums.{AreBytesAt}
use Rattle.gf256.proofs.HalfBytes.{product_by_halves}
use Rattle.gf256.specs.Field.{product, plus_scaled}

pub length-plus_scaled : (out : List ℕ) (factor : ℕ) (src : List ℕ) → length (plus_scaled out factor src) ≡ length out
length-plus_scaled [] factor src = refl
length-plus_scaled (o ∷ out) factor [] = refl
length-plus_scaled (o ∷ out) factor (s ∷ src) = ap suc (length-plus_scaled out factor src)

pub get_or-plus_scaled : (out : List ℕ) (factor : ℕ) (src : List ℕ) (k : ℕ) → length out ≡ length src → k < length out → get_or (plus_scaled out factor src) k 0 ≡ bit_xor (get_or out k 0) (product factor (get_or src k 0))
get_or-plus_scaled [] factor src k e h = absurd (omega arith)
get_or-plus_scaled (o ∷ out) factor [] k e h = absurd (omega arith)
get_or-plus_scaled (o ∷ out) factor (s ∷ src) zero e h = refl
get_or-plus_scaled (o ∷ out) factor (s ∷ src) (suc k) e h = get_or-plus_scaled out factor src k (omega arith) (omega arith)

pub plus_scaled_by_places : (new out : List ℕ) (factor : ℕ) (src : List ℕ) → length new ≡ length out → length out ≡ length src → ((k : ℕ) → k < length out → get_or new k 0 ≡ bit_xor (get_or out k 0) (product factor (get_or src k 0))) → new ≡ plus_scaled out factor src
plus_scaled_by_places [] [] factor src e f h = refl
plus_scaled_by_places [] (o ∷ out) factor src e f h = absurd (omega arith)
plus_scaled_by_places (x ∷ new) [] factor src e f h = absurd (omega arith)
plus_scaled_by_places (x ∷ new) (o ∷ out) factor [] e f h = absurd (omega arith)
plus_scaled_by_places (x ∷ new) (o ∷ out) factor (s ∷ src) e f h =
    let first : x ≡ bit_xor o (product factor s) = h 0 (omega arith) in
    let rest : new ≡ plus_scaled out factor src = plus_scaled_by_places new out factor src (omega arith) (omega arith) (λ k p. h (suc k) (omega arith)) in
    ap (λ y. y ∷ new) first ∙ ap (λ ys. bit_xor o (product factor s) ∷ ys) rest

-- the places below n have their products added, and the others are as they were
pub record IsScaledTo (factor : ℕ) (src : List ℕ) (n : ℕ) (old new : List ℕ) : Type 0 where
  pub long : length new ≡ length old
  pub done : (k : ℕ) → k < n → k < length old → get_or new k 0 ≡ bit_xor (get_or old k 0) (product factor (get_or src k 0))
  pub left : (k : ℕ) → n ≤ k → get_or new k 0 ≡ get_or old k 0

pub scaled_none : (factor : ℕ) (src old : List ℕ) → IsScaledTo factor src 0 old old
scaled_none factor src old = record { long = refl; done = λ k lt inside. absurd (omega arith); left = λ k le. refl }

pub scaled_block : (factor k : ℕ) (src old out bytes was new : List ℕ) → IsScaledTo factor src (16 * k) old out → 16 * k + 16 ≤ length old
    → AreBytesAt src (16 * k) bytes → AreBytesAt out (16 * k) was → AddsProducts factor bytes was new → IsScaledTo factor src (16 * (k + 1)) old (put_chunk (16 * k) out new)
scaled_block factor k src old out bytes was new before room are had adds = record {
  long = length-put_chunk (16 * k) out new ∙ before.long;
  done = λ j lt inside. either j lt inside (ltb j (16 * k)) refl;
  left = λ j le. get_or-put_chunk_above (16 * k) out new j 0 (omega (arith, adds.long)) ∙ before.left j (omega arith);
}
  where
    here : (i : ℕ) → i < 16 → get_or (put_chunk (16 * k) out new) (16 * k + i) 0 ≡ bit_xor (get_or old (16 * k + i) 0) (product factor (get_or src (16 * k + i) 0))
    here i lt =
        get_or-put_chunk_at (16 * k) out new i 0 (omega (arith, adds.long)) (omega (arith, adds.long, before.long))
        ∙ adds.each i lt
        ∙ ap (λ x. bit_xor x (product factor (get_or bytes i 0))) (had.each i lt ∙ before.left (16 * k + i) (omega arith))
        ∙ ap (λ x. bit_xor (get_or old (16 * k + i) 0) (product factor x)) (are.each i lt)

    either : (j : ℕ) → j < 16 * (k + 1) → j < length old → (b : Bool) → ltb j (16 * k) ≡ b
        → get_or (put_chunk (16 * k) out new) j 0 ≡ bit_xor (get_or old j 0) (product factor (get_or src j 0))
    either j lt inside true e =
        let small = ltb-true j (16 * k) e in
        get_or-put_chunk_below (16 * k) out new j 0 small ∙ before.done j small inside
    either j lt inside false e =
        let past = ltb-false j (16 * k) e in
        let at : j ≡ 16 * k + (j - 16 * k) = omega arith in
        ap (λ m. get_or (put_chunk (16 * k) out new) m 0) at
        ∙ here (j - 16 * k) (omega arith)
        ∙ ap (λ m. bit_xor (get_or old m 0) (product factor (get_or src m 0))) (sym at)

pub scaled_byte : (factor k x : ℕ) (src old out new : List ℕ) (low high : List ℕ) → IsScaledTo factor src k old out → k < length old → get_or src k 0 < 256
    → HasHalves factor low high → x ≡ bit_xor (get_or out k 0) (bit_xor (get_or low (get_or src k 0 % 16) 0) (get_or high (get_or src k 0 / 16) 0))
    → new ≡ set out k x → IsScaledTo factor src (k + 1) old new
scaled_byte factor k x src old out new low high before lt small has e f = record {
  long = ap length f ∙ length-set out k x ∙ before.long;
  done = λ j less inside. either j less inside (ltb j k) refl;
  left = λ j le. ap (λ xs. get_or xs j 0) f ∙ get_or-set_other out k j x 0 (λ same. absurd (omega arith)) ∙ before.left j (omega arith);
}
  where
    either : (j : ℕ) → j < k + 1 → j < length old → (b : Bool) → ltb j k ≡ b → get_or new j 0 ≡ bit_xor (get_or old j 0) (product factor (get_or src j 0))
    either j less inside true e' =
        let below = ltb-true j k e' in
        ap (λ xs. get_or xs j 0) f ∙ get_or-set_other out k j x 0 (λ same. absurd (omega arith)) ∙ before.done j below inside
    either j less inside false e' =
        let past = ltb-false j k e' in
        let same : j ≡ k = omega arith in
        let b = get_or src k 0 in
        rw same (
        ap (λ xs. get_or xs k 0) f
        ∙ get_or-set_at out k k x 0 refl (omega (arith, before.long))
        ∙ e
        ∙ ap (λ y. bit_xor y (bit_xor (get_or low (b % 16) 0) (get_or high (b / 16) 0))) (before.left k (omega arith))
        ∙ ap (bit_xor (get_or old k 0)) (ap (λ y. bit_xor y (get_or high (b / 16) 0)) (has.low_is (b % 16) (omega arith)) ∙ ap (bit_xor (product factor (b % 16))) (has.high_is (b / 16) (omega arith)) ∙ product_by_halves factor b small)
        )

pub scaled_all : (factor n : ℕ) (src old new : List ℕ) → length old ≡ length src → length src ≤ n → IsScaledTo factor src n old new → new ≡ plus_scaled old factor src
scaled_all factor n src old new same le is = plus_scaled_by_places new old factor src is.long same (λ k lt. is.done k (omega arith) lt)
