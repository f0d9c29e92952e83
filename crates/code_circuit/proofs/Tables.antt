-- Tables of factors, and how they are compared with rows.
use Rattle.std.proofs.Common.{◌≡◌, ◌≢◌, ℕ, ◌+◌, ◌<◌, Bool, true, false, not, List, [], ◌∷◌, ◌++◌, length, get_or, map, refl, sym, ap, ◌∙◌, arith, Bor, nat_eq, cond}
use mir.Val.{bool_byte}
use Rattle.std.proofs.lemmas.List.{get_or-map, length-map, map_push, ext_get_or}
use Rattle.std.proofs.lemmas.List.FromFn.{map-range_with_len_more, get_or-map-range_with_len, length-map-range_with_len}
use Rattle.std.specs.List.{range_with_len}
use Rattle.std.specs.Cmp.Lexicographic.{same_text, other_text}
use Rattle.std.specs.Cmp.Lexicographic.{pointwise}
use Rattle.gf256.specs.Rows.{contents}
use Rattle.gf256.proofs.Sums.{source_at}
use Rattle.code_circuit.specs.Steps.{picked, piece_of, loaded, unit_row, unit_rows, AreEven}

pub rows_more : {V : Type 0} (f : V → List ℕ) (wanted : ℕ → List ℕ) (old new : List V) (row : V) (k : ℕ) → map f old ≡ map wanted (range_with_len 0 k) → new ≡ old ++ row ∷ [] → f row ≡ wanted k
    → map f new ≡ map wanted (range_with_len 0 (k + 1))
rows_more f wanted old new row k before pushed made =
    ap (map f) pushed ∙ map_push f old row ∙ ap (λ xs. xs ++ f row ∷ []) before ∙ ap (λ x. map wanted (range_with_len 0 k) ++ x ∷ []) made
    ∙ sym (map-range_with_len_more wanted 0 k k (omega arith))

pub row_more : (wanted : ℕ → ℕ) (old new : List ℕ) (x k : ℕ) → old ≡ map wanted (range_with_len 0 k) → new ≡ old ++ x ∷ [] → x ≡ wanted k → new ≡ map wanted (range_with_len 0 (k + 1))
row_more wanted old new x k before pushed made =
    pushed ∙ ap (λ xs. xs ++ x ∷ []) before ∙ ap (λ y. map wanted (range_with_len 0 k) ++ y ∷ []) made ∙ sym (map-range_with_len_more wanted 0 k k (omega arith))

pub even_unit_rows : (sources registers : ℕ) → AreEven (unit_rows sources registers)
even_unit_rows sources registers j k a b =
    let long = length-map-range_with_len (unit_row sources) 0 registers in
    let row_long : (i : ℕ) → i < registers → length (get_or (unit_rows sources registers) i []) ≡ sources =
    λ i lt. ap length (get_or-map-range_with_len (unit_row sources) 0 registers i i [] lt (omega arith)) ∙ length-map-range_with_len _ 0 sources in
    row_long j (omega (arith, long)) ∙ sym (row_long k (omega (arith, long)))

pub even_loaded : (sources : List (List ℕ)) (from size registers : ℕ) → AreEven (loaded sources from size registers)
even_loaded sources from size registers j k a b =
    let piece : ℕ → List ℕ = λ i. piece_of (get_or sources i []) from size in
    let long = length-map-range_with_len piece 0 registers in
    let piece_long : (i : ℕ) → i < registers → length (get_or (loaded sources from size registers) i []) ≡ size =
    λ i lt. ap length (get_or-map-range_with_len piece 0 registers i i [] lt (omega arith)) ∙ length-map-range_with_len _ 0 size in
    piece_long j (omega (arith, long)) ∙ sym (piece_long k (omega (arith, long)))

told_other : (b : Bool) → true ≡ not b → false ≡ b
told_other true e = sym e
told_other false e = refl

told_same : (b : Bool) → false ≡ not b → true ≡ b
told_same true e = refl
told_same false e = sym e

pub row_there : {V : Type 0} (f : V → List ℕ) (table : List V) (outputs : List ℕ) (k : ℕ) (row : V) → get_or outputs k 0 < length table
    → row ≡ get_or table (get_or outputs k 0) row → f row ≡ get_or (map f table) (get_or outputs k 0) []
row_there f table outputs k row inside here = ap f here ∙ sym (get_or-map f table (get_or outputs k 0) row [] inside)

pub row_differs : {V : Type 0} (f : V → List ℕ) (table : List V) (outputs : List ℕ) (rows : List (Bor (List ℕ))) (k : ℕ) (row : V) (d : Bor (List ℕ)) (seen : List ℕ)
    → k < length outputs → k < length rows → get_or outputs k 0 < length table → row ≡ get_or table (get_or outputs k 0) row → seen ≡ f row
    → true ≡ not (pointwise nat_eq seen (get_or rows k d).now) → picked outputs (map f table) ≢ contents rows
row_differs f table outputs rows k row d seen lt lt_rows inside here is differs e =
    other_text seen (get_or rows k d).now (told_other _ differs)
    (is ∙ row_there f table outputs k row inside here ∙ sym (get_or-map (λ place. get_or (map f table) place []) outputs k 0 [] lt) ∙ ap (λ xs. get_or xs k []) e ∙ source_at rows k d lt_rows)

pub row_agrees : {V : Type 0} (f : V → List ℕ) (table : List V) (outputs : List ℕ) (rows : List (Bor (List ℕ))) (k : ℕ) (row : V) (d : Bor (List ℕ)) (seen : List ℕ)
    → k < length rows → get_or outputs k 0 < length table → row ≡ get_or table (get_or outputs k 0) row → seen ≡ f row
    → false ≡ not (pointwise nat_eq seen (get_or rows k d).now) → get_or (map f table) (get_or outputs k 0) [] ≡ get_or (contents rows) k []
row_agrees f table outputs rows k row d seen lt inside here is agrees =
    sym (row_there f table outputs k row inside here) ∙ sym is ∙ same_text seen (get_or rows k d).now (told_same _ agrees) ∙ sym (source_at rows k d lt)

pub all_agree : (table : List (List ℕ)) (outputs : List ℕ) (rows : List (Bor (List ℕ))) → length outputs ≡ length rows
    → ((j : ℕ) → j < length outputs → get_or table (get_or outputs j 0) [] ≡ get_or (contents rows) j []) → picked outputs table ≡ contents rows
all_agree table outputs rows long same =
    let left = length-map outputs (λ place. get_or table place []) in
    let right : length (contents rows) ≡ length rows = length-map rows (λ source. source.now) in
    ext_get_or [] (picked outputs table) (contents rows) (omega (arith, left, right))
    (λ i lt. get_or-map (λ place. get_or table place []) outputs i 0 [] (omega (arith, left)) ∙ same i (omega (arith, left)))

pub bit_of : (b : Bool) → bool_byte b ≡ cond b 1 0
bit_of true = refl
bit_of false = refl
