-- Outputs that grow piece by piece.
use Rattle.std.proofs.Common.{◌≡◌, refl, sym, ap, ◌∙◌, ℕ, ◌-◌, ◌≤◌, List, ◌++◌, length, get_or, replicate, arith, length-append, Bor}
use Rattle.std.proofs.lemmas.List.{ext_get_or, get_or_append_left, length-replicate}
use Rattle.std.proofs.lemmas.List.FromFn.{get_or-map-range_with_len, length-map-range_with_len}
use Rattle.gf256.specs.declared.lanes.Halves.{Halves}
use Rattle.gf256.specs.Halves.{AreHalves}
use Rattle.gf256.specs.Sums.{sum_at, sums_of, HasSumsBelow}
use Rattle.gf256.specs.Rows.{contents, Fills}

-- an output of n bytes, the first of `size`, which are the sums
pub record HasSumsTo (factors : List ℕ) (sources : List (Bor (List ℕ))) (size n : ℕ) (bytes : List ℕ) : Type 0 where
  pub long : length bytes ≡ n
  pub within : n ≤ size
  pub below : HasSumsBelow factors (contents sources) n bytes

pub piece_more : (factors : List ℕ) (row : List Halves) (sources : List (Bor (List ℕ))) (size from end : ℕ) (bytes grown new : List ℕ) → AreHalves factors row
    → HasSumsTo factors sources size from bytes → from ≤ end → end ≤ size → grown ≡ bytes ++ replicate (end - from) 0 → Fills row sources from grown new
    → HasSumsTo factors sources size (length new) new
piece_more factors row sources size from end bytes grown new are before le within e fills =
    let zeros = length-replicate {A = ℕ} (end - from) 0 in
    let long : length grown ≡ end = ap length e ∙ length-append bytes (replicate (end - from) 0) ∙ omega (arith, before.long) in
    let kept : HasSumsBelow factors (contents sources) from grown =
    λ k lt inside. ap (λ xs. get_or xs k 0) e ∙ get_or_append_left bytes (replicate (end - from) 0) 0 k (omega (arith, before.long)) ∙ before.below k lt (omega (arith, before.long)) in
    record {
      long = refl;
      within = omega (arith, fills.long);
      below = λ k lt inside. fills.sums factors are kept k (omega (arith, fills.long)) inside;
    }

pub whole : (factors : List ℕ) (sources : List (Bor (List ℕ))) (size n : ℕ) (bytes : List ℕ) → HasSumsTo factors sources size n bytes → size ≤ n → bytes ≡ sums_of factors (contents sources) size
whole factors sources size n bytes has le =
    ext_get_or 0 bytes (sums_of factors (contents sources) size) (omega (arith, has.long, has.within, length-map-range_with_len (sum_at factors (contents sources)) 0 size))
    (λ i lt. has.below i (omega (arith, has.long)) lt ∙ sym (get_or-map-range_with_len (sum_at factors (contents sources)) 0 size i i 0 (omega (arith, has.long, has.within)) (omega arith)))
