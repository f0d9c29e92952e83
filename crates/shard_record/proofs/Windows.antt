-- Blocks of sixteen bytes that are added to a window, and where it stays as it was.
use Rattle.std.proofs.Common.{◌≡◌, ◌∙◌, sym, ap, refl, ℕ, ◌+◌, ◌-◌, ◌*◌, ◌<◌, ◌≤◌, Bool, true, false, ltb, List, [], ◌∷◌, length, get_or, replicate, bit_xor, arith}
use Rattle.std.proofs.lemmas.Bool.{ltb-true, ltb-false}
use Rattle.std.proofs.lemmas.Simd.{length-chunk, get_or-chunk, length-zip2, get_or-zip2, length-put_chunk, get_or-put_chunk_below, get_or-put_chunk_at, get_or-put_chunk_above, get_or-replicate}
use lib.Lanes.{Each1, zip2, chunk, put_chunk}
use Rattle.shard_record.specs.Folding.{inner_exponents, lower_exponents, sum_behind, AreSumsBehind, IsFolded}
use Rattle.shard_record.proofs.Folds.{inner_are_small}

-- ---- lanes
pub length-lanes : (bytes lanes : List ℕ) (at : ℕ) → at + 16 ≤ length bytes → length lanes ≡ 16 → length (zip2 bit_xor (chunk at 16 bytes) lanes) ≡ 16
length-lanes bytes lanes at inside long =
    length-zip2 bit_xor (chunk at 16 bytes) lanes (length-chunk at 16 bytes inside ∙ sym long) ∙ length-chunk at 16 bytes inside

pub lane_with : (bytes lanes : List ℕ) (at i : ℕ) → at + 16 ≤ length bytes → length lanes ≡ 16 → i < 16 → get_or (zip2 bit_xor (chunk at 16 bytes) lanes) i 0 ≡ bit_xor (get_or bytes (at + i) 0) (get_or lanes i 0)
lane_with bytes lanes at i inside long lt =
    get_or-zip2 bit_xor (chunk at 16 bytes) lanes i 0 0 0 (omega (arith, length-chunk at 16 bytes inside)) (omega (arith, long))
    ∙ ap (λ b. bit_xor b (get_or lanes i 0)) (get_or-chunk at 16 bytes i 0 lt)

pub none_behind : (window : List ℕ) (at : ℕ) → AreSumsBehind [] window at (replicate 16 0)
unfolding sum_behind
none_behind window at = record { long = refl; each = λ i lt. get_or-replicate 16 i 0 0 lt }

pub one_behind : (exponent at : ℕ) (exponents window lanes : List ℕ) → at + 16 * exponent + 16 ≤ length window → AreSumsBehind exponents window at lanes
    → AreSumsBehind (exponent ∷ exponents) window at (zip2 bit_xor (chunk (at + 16 * exponent) 16 window) lanes)
unfolding sum_behind
one_behind exponent at exponents window lanes inside sums = record {
  long = length-lanes window lanes (at + 16 * exponent) inside sums.long;
  each = λ i lt.
      let place : at + 16 * exponent + i ≡ at + i + 16 * exponent = omega arith in
      lane_with window lanes (at + 16 * exponent) i inside sums.long lt
      ∙ ap (λ p. bit_xor (get_or window p 0) (get_or lanes i 0)) place
      ∙ ap (bit_xor (get_or window (at + i + 16 * exponent) 0)) (sums.each i lt);
}

-- ---- sums that look at places that stay
abbrev pub AreUpTo26 : List ℕ → Type 0
AreUpTo26 exponents = Each1 (λ e. (1 ≤ e) × (e ≤ 26)) exponents

sums_stay_at : (exponents old new : List ℕ) (place : ℕ) → AreUpTo26 exponents → ((k : ℕ) → k < place + 432 → get_or new k 0 ≡ get_or old k 0) → sum_behind exponents new place ≡ sum_behind exponents old place
unfolding sum_behind
sums_stay_at [] old new place small same = refl
sums_stay_at (e ∷ es) old new place small same =
    ap (λ b. bit_xor b (sum_behind es new place)) (same (place + 16 * e) (omega (arith, small.0.1)))
    ∙ ap (bit_xor (get_or old (place + 16 * e) 0)) (sums_stay_at es old new place small.1 same)

sums_stay : (old new : List ℕ) (place : ℕ) → ((k : ℕ) → k < place + 432 → get_or new k 0 ≡ get_or old k 0) → sum_behind lower_exponents new place ≡ sum_behind lower_exponents old place
unfolding sum_behind
sums_stay old new place same =
    ap (λ b. bit_xor b (sum_behind inner_exponents new place)) (same (place + 16 * 0) (omega arith))
    ∙ ap (bit_xor (get_or old (place + 16 * 0) 0)) (sums_stay_at inner_exponents old new place inner_are_small same)

-- ---- folding
-- sixteen bytes from a place on, each with the sum of what was folded to it
pub record IsBlock (bytes window : List ℕ) (at : ℕ) (block : List ℕ) : Type 0 where
  pub long : length block ≡ 16
  pub each : (i : ℕ) → i < 16 → get_or block i 0 ≡ bit_xor (get_or bytes (at + i) 0) (sum_behind lower_exponents window (at + i))

pub fold_none : (bytes window : List ℕ) → IsFolded bytes (16 * 0) window window
fold_none bytes window = record { long = refl; front = λ k lt. refl; done = λ k lt. absurd (omega arith); left = λ k le. refl }

pub fold_more : (bytes old window block : List ℕ) (k : ℕ) → IsFolded bytes (16 * k) old window → IsBlock bytes window (16 * k) block → 16 * k + 528 ≤ length old
    → IsFolded bytes (16 * (k + 1)) old (put_chunk (16 * k + 512) window block)
fold_more bytes old window block k before is room = record {
  long = length-put_chunk (16 * k + 512) window block ∙ before.long;
  front = λ j lt. get_or-put_chunk_below (16 * k + 512) window block j 0 (omega arith) ∙ before.front j lt;
  done = λ j lt. either j lt (ltb j (16 * k)) refl;
  left = λ j le. get_or-put_chunk_above (16 * k + 512) window block j 0 (omega (arith, is.long)) ∙ before.left j (omega arith);
}
  where
    stay : (j : ℕ) → j < 16 * k + 16 → sum_behind lower_exponents window j ≡ sum_behind lower_exponents (put_chunk (16 * k + 512) window block) j
    stay j lt = sym (sums_stay window (put_chunk (16 * k + 512) window block) j (λ i below. get_or-put_chunk_below (16 * k + 512) window block i 0 (omega arith)))

    either : (j : ℕ) → j < 16 * (k + 1) → (b : Bool) → ltb j (16 * k) ≡ b
        → get_or (put_chunk (16 * k + 512) window block) (j + 512) 0 ≡ bit_xor (get_or bytes j 0) (sum_behind lower_exponents (put_chunk (16 * k + 512) window block) j)
    either j lt true e =
        let small = ltb-true j (16 * k) e in
        get_or-put_chunk_below (16 * k + 512) window block (j + 512) 0 (omega arith)
        ∙ before.done j small
        ∙ ap (bit_xor (get_or bytes j 0)) (stay j (omega arith))
    either j lt false e =
        let past = ltb-false j (16 * k) e in
        let place : j + 512 ≡ 16 * k + 512 + (j - 16 * k) = omega arith in
        let here : 16 * k + (j - 16 * k) ≡ j = omega arith in
        ap (λ p. get_or (put_chunk (16 * k + 512) window block) p 0) place
        ∙ get_or-put_chunk_at (16 * k + 512) window block (j - 16 * k) 0 (omega (arith, is.long)) (omega (arith, is.long, before.long))
        ∙ is.each (j - 16 * k) (omega arith)
        ∙ ap (λ p. bit_xor (get_or bytes p 0) (sum_behind lower_exponents window p)) here
        ∙ ap (bit_xor (get_or bytes j 0)) (stay j (omega arith))

-- ---- the end
-- the first n bytes of the end are those
pub record IsEndTo (bytes : List ℕ) (from : ℕ) (window : List ℕ) (n : ℕ) (end : List ℕ) : Type 0 where
  pub long : length end ≡ 512
  pub each : (k : ℕ) → k < n → get_or end k 0 ≡ bit_xor (get_or bytes (from + k) 0) (sum_behind lower_exponents window (from + k))

pub end_none : (bytes window : List ℕ) (from : ℕ) (end : List ℕ) → length end ≡ 512 → IsEndTo bytes from window (16 * 0) end
end_none bytes window from end long = record { long = long; each = λ k lt. absurd (omega arith) }

pub end_more : (bytes window end block : List ℕ) (from k : ℕ) → IsEndTo bytes from window (16 * k) end → IsBlock bytes window (from + 16 * k) block → k < 32
    → IsEndTo bytes from window (16 * (k + 1)) (put_chunk (16 * k) end block)
end_more bytes window end block from k before is room = record {
  long = length-put_chunk (16 * k) end block ∙ before.long;
  each = λ j lt. either j lt (ltb j (16 * k)) refl;
}
  where
    either : (j : ℕ) → j < 16 * (k + 1) → (b : Bool) → ltb j (16 * k) ≡ b
        → get_or (put_chunk (16 * k) end block) j 0 ≡ bit_xor (get_or bytes (from + j) 0) (sum_behind lower_exponents window (from + j))
    either j lt true e =
        let small = ltb-true j (16 * k) e in
        get_or-put_chunk_below (16 * k) end block j 0 small ∙ before.each j small
    either j lt false e =
        let past = ltb-false j (16 * k) e in
        let place : j ≡ 16 * k + (j - 16 * k) = omega arith in
        let here : from + 16 * k + (j - 16 * k) ≡ from + j = omega arith in
        ap (λ p. get_or (put_chunk (16 * k) end block) p 0) place
        ∙ get_or-put_chunk_at (16 * k) end block (j - 16 * k) 0 (omega (arith, is.long)) (omega (arith, is.long, before.long))
        ∙ is.each (j - 16 * k) (omega arith)
        ∙ ap (λ p. bit_xor (get_or bytes p 0) (sum_behind lower_exponents window p)) here
