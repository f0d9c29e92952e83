-- Sums that grow by one source's products after another.
use Rattle.std.proofs.Common.{◌≡◌, refl, sym, ap, ◌∙◌, ℕ, zero, suc, ◌+◌, ◌<◌, ◌≤◌, List, [], ◌∷◌, length, get_or, drop, map, replicate, bit_xor, arith, Fits, w8, Bor}
use Rattle.std.specs.Int.Bits.{xor_assoc, xor_zero_l, xor_zero_r}
use Rattle.std.proofs.Math.Seq.{drop-cons}
use Rattle.std.proofs.lemmas.List.{get_or-drop, get_or-take, drop_all, length-map}
use Rattle.std.proofs.lemmas.Simd.{length-chunk, chunk-fits, below_from_Fits, get_or-replicate}
use lib.Lanes.{chunk}
use Rattle.gf256.specs.declared.lanes.Halves.{Halves}
use Rattle.gf256.specs.Field.{product}
use Rattle.gf256.specs.Halves.{HasHalves, AddsProducts}
use Rattle.gf256.proofs.Rows.{AreHalves-at, length-AreHalves}
use Rattle.gf256.specs.Rows.{contents, SumsAtPair, PartialAtPair}
use Rattle.gf256.specs.Sums.{sum_at, AreBytesAt, HasSums, IsPartial}

-- ---- blocks of bytes
get_or-chunk : (at : ℕ) (bytes : List ℕ) (i : ℕ) → i < 16 → get_or (chunk at 16 bytes) i 0 ≡ get_or bytes (at + i) 0
get_or-chunk at bytes i lt = get_or-take 16 (drop at bytes) i 0 lt ∙ get_or-drop at bytes i 0

pub block_bytes : (source : List ℕ) (at : ℕ) → ((i : ℕ) → Fits w8 (get_or source i 0)) → at + 16 ≤ length source → AreBytesAt source at (chunk at 16 source)
block_bytes source at small le = record {
  long = length-chunk at 16 source le;
  fits = below_from_Fits w8 (chunk at 16 source) (chunk-fits w8 at 16 source small);
  each = λ i lt. get_or-chunk at source i lt;
}

-- ---- from no products to all
pub partial_none : (factors : List ℕ) (sources : List (List ℕ)) (at : ℕ) (lanes : List ℕ) → lanes ≡ replicate 16 0 → IsPartial factors sources 0 at lanes
partial_none factors sources at lanes e = rw e (record {
  long = refl;
  each = λ i lt. ap (λ x. bit_xor x (sum_at factors sources (at + i))) (get_or-replicate 16 i 0 0 lt) ∙ xor_zero_l (sum_at factors sources (at + i));
})

-- the sum from a place of the rows on is the product there and the sum behind it
pub sum_next : (factors : List ℕ) (sources : List (List ℕ)) (j place : ℕ) → j < length factors → j < length sources
    → sum_at (drop j factors) (drop j sources) place ≡ bit_xor (product (get_or factors j 0) (get_or (get_or sources j []) place 0)) (sum_at (drop (j + 1) factors) (drop (j + 1) sources) place)
unfolding sum_at
sum_next factors sources j place f s =
    let e : j + 1 ≡ suc j = omega arith in
    rw e (ap (λ fs. sum_at fs (drop j sources) place) (drop-cons factors j 0 f) ∙ ap (λ ss. sum_at (get_or factors j 0 ∷ drop (suc j) factors) ss place) (drop-cons sources j [] s))

pub partial_more : (factors : List ℕ) (sources : List (List ℕ)) (j at : ℕ) (old new bytes : List ℕ) → j < length factors → j < length sources
    → IsPartial factors sources j at old → AddsProducts (get_or factors j 0) bytes old new → AreBytesAt (get_or sources j []) at bytes → IsPartial factors sources (j + 1) at new
partial_more factors sources j at old new bytes f s before adds are = record {
  long = adds.long;
  each = λ i lt.
      let rest = sum_at (drop (j + 1) factors) (drop (j + 1) sources) (at + i) in
      let here = product (get_or factors j 0) (get_or (get_or sources j []) (at + i) 0) in
      ap (λ x. bit_xor x rest) (adds.each i lt ∙ ap (λ b. bit_xor (get_or old i 0) (product (get_or factors j 0) b)) (are.each i lt))
      ∙ xor_assoc (get_or old i 0) here rest
      ∙ ap (bit_xor (get_or old i 0)) (sym (sum_next factors sources j (at + i) f s))
      ∙ before.each i lt;
}

pub sum_of_none : (sources : List (List ℕ)) (place : ℕ) → sum_at [] sources place ≡ 0
unfolding sum_at
sum_of_none sources place = refl

pub partial_all : (factors : List ℕ) (sources : List (List ℕ)) (j at : ℕ) (lanes : List ℕ) → length factors ≤ j → IsPartial factors sources j at lanes → HasSums factors sources at lanes
partial_all factors sources j at lanes le whole = record {
  long = whole.long;
  each = λ i lt.
      let none : sum_at (drop j factors) (drop j sources) (at + i) ≡ 0 = ap (λ fs. sum_at fs (drop j sources) (at + i)) (drop_all j factors le) ∙ sum_of_none (drop j sources) (at + i) in
      sym (xor_zero_r (get_or lanes i 0)) ∙ ap (bit_xor (get_or lanes i 0)) (sym none) ∙ whole.each i lt;
}

-- ---- the same for the two blocks of a pair, with the sources behind references
pub source_at : (sources : List (Bor (List ℕ))) (j : ℕ) (d : Bor (List ℕ)) → j < length sources → get_or (map (λ source. source.now) sources) j [] ≡ (get_or sources j d).now
source_at [] j d lt = absurd (omega arith)
source_at (source ∷ sources) zero d lt = refl
source_at (source ∷ sources) (suc j) d lt = source_at sources j d (omega arith)

pub pair_none : (row : List Halves) (sources : List (Bor (List ℕ))) (at : ℕ) (first second : List ℕ) → first ≡ replicate 16 0 → second ≡ replicate 16 0 → PartialAtPair row sources 0 at first second
pair_none row sources at first second e f = record {
  first_long = ap length e;
  second_long = ap length f;
  partial = λ factors are. (partial_none factors (contents sources) at first e, partial_none factors (contents sources) (at + 16) second f);
}

pub pair_more : (row : List Halves) (sources : List (Bor (List ℕ))) (j at : ℕ) (h : Halves) (d : Bor (List ℕ)) (first second new_first new_second first_bytes second_bytes : List ℕ)
    → length row ≡ length sources → j < length sources → PartialAtPair row sources j at first second
    → (length new_first ≡ 16) × (length new_second ≡ 16)
    → ((factor : ℕ) → HasHalves factor (get_or row j h).low (get_or row j h).high → AddsProducts factor first_bytes first new_first × AddsProducts factor second_bytes second new_second)
    → AreBytesAt (get_or sources j d).now at first_bytes → AreBytesAt (get_or sources j d).now (at + 16) second_bytes
    → PartialAtPair row sources (j + 1) at new_first new_second
pair_more row sources j at h d first second new_first new_second first_bytes second_bytes same lt before long adds one two = record {
  first_long = long.0;
  second_long = long.1;
  partial = λ factors are.
      let rows = length-AreHalves factors row are in
      let whole : length (contents sources) ≡ length sources = length-map sources (λ source. source.now) in
      let here = source_at sources j d lt in
      let added = adds (get_or factors j 0) (AreHalves-at factors row j h are (omega arith)) in
      let partial = before.partial factors are in (
        partial_more factors (contents sources) j at first new_first first_bytes (omega arith) (omega arith) partial.0 added.0 (rw here one),
        partial_more factors (contents sources) j (at + 16) second new_second second_bytes (omega arith) (omega arith) partial.1 added.1 (rw here two),
      );
}

pub pair_all : (row : List Halves) (sources : List (Bor (List ℕ))) (j at : ℕ) (first second : List ℕ) → length row ≡ length sources → length sources ≤ j
    → PartialAtPair row sources j at first second → SumsAtPair row sources at first second
pair_all row sources j at first second same le partial = record {
  first_long = partial.first_long;
  second_long = partial.second_long;
  sums = λ factors are.
      let rows = length-AreHalves factors row are in
      let whole = partial.partial factors are in
      (partial_all factors (contents sources) j at first (omega arith) whole.0, partial_all factors (contents sources) j (at + 16) second (omega arith) whole.1);
}
