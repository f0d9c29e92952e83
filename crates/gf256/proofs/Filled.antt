-- Outputs that have the sums below a place, and get those of more places.
use Rattle.std.proofs.Common.{◌≡◌, refl, sym, ap, ◌∙◌, ℕ, ◌+◌, ◌-◌, ◌*◌, ◌/◌, ◌%◌, ◌<◌, ◌≤◌, Bool, true, false, ltb, List, [], length, get_or, drop, bit_xor, arith, Bor}
use Rattle.std.specs.Int.Bits.{xor_assoc, xor_zero_l, xor_zero_r}
use Rattle.std.proofs.lemmas.Bool.{ltb-true, ltb-false}
use Rattle.std.proofs.lemmas.List.{drop_all, length-map}
use Rattle.std.proofs.lemmas.Simd.{length-put_chunk, get_or-put_chunk_below, get_or-put_chunk_at}
use lib.Lanes.{put_chunk}
use Rattle.gf256.specs.declared.lanes.Halves.{Halves}
use Rattle.gf256.specs.Field.{product}
use Rattle.gf256.specs.Halves.{AreHalves}
use Rattle.gf256.specs.Sums.{sum_at, HasSumsBelow}
use Rattle.gf256.specs.Rows.{contents, SumsAtPair, Fills}
use Rattle.gf256.proofs.HalfBytes.{product_by_halves}
use Rattle.gf256.proofs.Rows.{AreHalves-at, length-AreHalves}
use Rattle.gf256.proofs.Sums.{sum_next, sum_of_none, source_at}

-- ---- one place
abbrev pub IsByteSum : List Halves → List (Bor (List ℕ)) → ℕ → ℕ → ℕ → Type 0
IsByteSum row sources j place sum = (factors : List ℕ) → AreHalves factors row
    → bit_xor sum (sum_at (drop j factors) (drop j (contents sources)) place) ≡ sum_at factors (contents sources) place

pub byte_none : (row : List Halves) (sources : List (Bor (List ℕ))) (place : ℕ) → IsByteSum row sources 0 place 0
byte_none row sources place factors are = xor_zero_l (sum_at factors (contents sources) place)

pub byte_more : (row : List Halves) (sources : List (Bor (List ℕ))) (j place : ℕ) (h : Halves) (d : Bor (List ℕ)) (sum new : ℕ) → length row ≡ length sources → j < length sources
    → get_or (get_or sources j d).now place 0 < 256
    → new ≡ bit_xor sum (bit_xor (get_or (get_or row j h).low (get_or (get_or sources j d).now place 0 % 16) 0) (get_or (get_or row j h).high (get_or (get_or sources j d).now place 0 / 16) 0))
    → IsByteSum row sources j place sum → IsByteSum row sources (j + 1) place new
byte_more row sources j place h d sum new same lt small e before factors are =
    let rows = length-AreHalves factors row are in
    let whole : length (contents sources) ≡ length sources = length-map sources (λ source. source.now) in
    let b = get_or (get_or sources j d).now place 0 in
    let f = get_or factors j 0 in
    let has = AreHalves-at factors row j h are (omega arith) in
    let low = has.low_is (b % 16) (omega arith) in
    let high = has.high_is (b / 16) (omega arith) in
    let rest = sum_at (drop (j + 1) factors) (drop (j + 1) (contents sources)) place in
    let here : product f b ≡ product f (get_or (get_or (contents sources) j []) place 0) = ap (λ s. product f (get_or s place 0)) (sym (source_at sources j d lt)) in
    ap (λ x. bit_xor x rest) (e ∙ ap (bit_xor sum) (ap (λ x. bit_xor x (get_or (get_or row j h).high (b / 16) 0)) low ∙ ap (bit_xor (product f (b % 16))) high ∙ product_by_halves f b small ∙ here))
    ∙ xor_assoc sum (product f (get_or (get_or (contents sources) j []) place 0)) rest
    ∙ ap (bit_xor sum) (sym (sum_next factors (contents sources) j place (omega arith) (omega arith)))
    ∙ before factors are

pub byte_all : (row : List Halves) (sources : List (Bor (List ℕ))) (j place sum : ℕ) → length row ≡ length sources → length sources ≤ j → IsByteSum row sources j place sum
    → (factors : List ℕ) → AreHalves factors row → sum ≡ sum_at factors (contents sources) place
byte_all row sources j place sum same le before factors are =
    let rows = length-AreHalves factors row are in
    let none : sum_at (drop j factors) (drop j (contents sources)) place ≡ 0 = ap (λ fs. sum_at fs (drop j (contents sources)) place) (drop_all j factors (omega arith)) ∙ sum_of_none (drop j (contents sources)) place in
    sym (xor_zero_r sum) ∙ ap (bit_xor sum) (sym none) ∙ before factors are

-- ---- 32 places
abbrev pub stored : ℕ → List ℕ → List ℕ → List ℕ → List ℕ
stored at out first second = put_chunk (at + 16) (put_chunk at out first) second

pub length-stored : (at : ℕ) (out first second : List ℕ) → length (stored at out first second) ≡ length out
length-stored at out first second = length-put_chunk (at + 16) (put_chunk at out first) second ∙ length-put_chunk at out first

stored_before : (at k : ℕ) (out first second : List ℕ) → k < at → get_or (stored at out first second) k 0 ≡ get_or out k 0
stored_before at k out first second lt = get_or-put_chunk_below (at + 16) (put_chunk at out first) second k 0 (omega arith) ∙ get_or-put_chunk_below at out first k 0 lt

stored_first : (at i : ℕ) (out first second : List ℕ) → length first ≡ 16 → at + 32 ≤ length out → i < 16 → get_or (stored at out first second) (at + i) 0 ≡ get_or first i 0
stored_first at i out first second long room lt =
    get_or-put_chunk_below (at + 16) (put_chunk at out first) second (at + i) 0 (omega arith) ∙ get_or-put_chunk_at at out first i 0 (omega arith) (omega arith)

stored_second : (at i : ℕ) (out first second : List ℕ) → length second ≡ 16 → at + 32 ≤ length out → i < 16 → get_or (stored at out first second) (at + 16 + i) 0 ≡ get_or second i 0
stored_second at i out first second long room lt =
    let inner = length-put_chunk at out first in
    get_or-put_chunk_at (at + 16) (put_chunk at out first) second i 0 (omega arith) (omega arith)

stored_at : (row : List Halves) (sources : List (Bor (List ℕ))) (factors : List ℕ) (at n k : ℕ) (out first second : List ℕ) → SumsAtPair row sources at first second
    → AreHalves factors row → at + 32 ≤ length out → at ≤ n → HasSumsBelow factors (contents sources) n out → k < at + 32
    → get_or (stored at out first second) k 0 ≡ sum_at factors (contents sources) k
stored_at row sources factors at n k out first second sums are room le below lt = before_or_in (ltb k at) refl
  where
    in_second : at + 16 ≤ k → get_or (stored at out first second) k 0 ≡ sum_at factors (contents sources) k
    in_second h =
        let e : k ≡ at + 16 + (k - (at + 16)) = omega arith in
        ap (λ m. get_or (stored at out first second) m 0) e
        ∙ stored_second at (k - (at + 16)) out first second sums.second_long room (omega arith)
        ∙ (sums.sums factors are).1.each (k - (at + 16)) (omega arith)
        ∙ ap (sum_at factors (contents sources)) (sym e)

    in_first : at ≤ k → k < at + 16 → get_or (stored at out first second) k 0 ≡ sum_at factors (contents sources) k
    in_first h small =
        let e : k ≡ at + (k - at) = omega arith in
        ap (λ m. get_or (stored at out first second) m 0) e
        ∙ stored_first at (k - at) out first second sums.first_long room (omega arith)
        ∙ (sums.sums factors are).0.each (k - at) (omega arith)
        ∙ ap (sum_at factors (contents sources)) (sym e)

    first_or_second : at ≤ k → (b : Bool) → ltb k (at + 16) ≡ b → get_or (stored at out first second) k 0 ≡ sum_at factors (contents sources) k
    first_or_second h true e = in_first h (ltb-true k (at + 16) e)
    first_or_second h false e = in_second (ltb-false k (at + 16) e)

    before_or_in : (b : Bool) → ltb k at ≡ b → get_or (stored at out first second) k 0 ≡ sum_at factors (contents sources) k
    before_or_in true e = let small = ltb-true k at e in stored_before at k out first second small ∙ below k (omega arith) (omega arith)
    before_or_in false e = first_or_second (ltb-false k at e) (ltb k (at + 16)) refl

-- an output whose places below n have the sums, and 32 more were stored
pub store_more : (row : List Halves) (sources : List (Bor (List ℕ))) (at n : ℕ) (old new first second : List ℕ) → new ≡ stored at old first second → SumsAtPair row sources at first second
    → at + 32 ≤ length old → at ≤ n → (factors : List ℕ) → AreHalves factors row → HasSumsBelow factors (contents sources) n old → HasSumsBelow factors (contents sources) (at + 32) new
store_more row sources at n old new first second e sums room le factors are below k lt inside =
    ap (λ xs. get_or xs k 0) e ∙ stored_at row sources factors at n k old first second sums are room le below lt

-- ---- from place to place
abbrev pub IsFilledTo : List Halves → List (Bor (List ℕ)) → ℕ → ℕ → List ℕ → List ℕ → Type 0
IsFilledTo row sources from end old new = (length new ≡ length old)
    × ((factors : List ℕ) → AreHalves factors row → HasSumsBelow factors (contents sources) from old → HasSumsBelow factors (contents sources) end new)

pub filled_more : (row : List Halves) (sources : List (Bor (List ℕ))) (from k : ℕ) (old out new first second : List ℕ) → new ≡ stored (from + 32 * k) out first second
    → SumsAtPair row sources (from + 32 * k) first second → from + 32 * k + 32 ≤ length old → IsFilledTo row sources from (from + 32 * k) old out
    → IsFilledTo row sources from (from + 32 * (k + 1)) old new
filled_more row sources from k old out new first second e sums room before = (
  ap length e ∙ length-stored (from + 32 * k) out first second ∙ before.0,
  λ factors are below.
      let next : from + 32 * (k + 1) ≡ from + 32 * k + 32 = omega arith in
      rw next (store_more row sources (from + 32 * k) (from + 32 * k) out new first second e sums (omega (arith, before.0)) (omega arith) factors are (before.1 factors are below)),
)

pub finished : (row : List Halves) (sources : List (Bor (List ℕ))) (from : ℕ) (old new first second : List ℕ) → new ≡ stored (length old - 32) old first second
    → SumsAtPair row sources (length old - 32) first second → 32 ≤ length old → length old < from + 32 → Fills row sources from old new
finished row sources from old new first second e sums large late = record {
  long = ap length e ∙ length-stored (length old - 32) old first second;
  sums = λ factors are below.
      let end : length old ≡ length old - 32 + 32 = omega arith in
      λ k lt inside. store_more row sources (length old - 32) from old new first second e sums (omega arith) (omega arith) factors are below k (omega arith) inside;
}

pub filled_all : (row : List Halves) (sources : List (Bor (List ℕ))) (from end : ℕ) (old out new : List ℕ) → IsFilledTo row sources from end old out → Fills row sources end out new → Fills row sources from old new
filled_all row sources from end old out new before last = record {
  long = last.long ∙ before.0;
  sums = λ factors are below k lt inside. last.sums factors are (before.1 factors are below) k (omega (arith, before.0)) inside;
}
