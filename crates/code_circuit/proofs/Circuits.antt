-- What steps that lead from the unit rows to some rows do with a piece of the sources.
use Rattle.std.proofs.Common.{◌≡◌, ◌≢◌, ℕ, ◌+◌, ◌-◌, ◌<◌, Bool, true, false, eqb, ltb, cond, List, [], ◌∷◌, ◌++◌, length, get_or, map, replicate, refl, sym, ap, ◌∙◌, arith, All, length-append, subst}
use Rattle.std.proofs.lemmas.Bool.{eqb-true, eqb-false, ltb-true, ltb-false}
use Rattle.std.proofs.lemmas.List.{get_or-map, length-map, get_or_append_left, get_or-append_right}
use Rattle.std.proofs.lemmas.List.FromFn.{fill_by_all, get_or-map-range_with_len, length-map-range_with_len}
use Rattle.std.specs.List.{range_with_len}
use Rattle.gf256.specs.Sums.{sum_at, sums_of}
use Rattle.code_circuit.specs.declared.step.Step.{Step}
use Rattle.code_circuit.specs.Steps.{after_steps, IsAllowed, unit_row, unit_rows, picked, piece_of, loaded}
use Rattle.code_circuit.proofs.Moves.{length-after_steps}
use Rattle.code_circuit.proofs.Linear.{Holds, holds_steps, sum_one}

unit_at : (sources k j : ℕ) → j < sources → get_or (unit_row sources k) j 0 ≡ cond (eqb j k) 1 0
unit_at sources k j lt = get_or-map-range_with_len (λ i. cond (eqb i k) 1 0) 0 sources j j 0 lt (omega arith)

abbrev bit : Bool → ℕ
bit b = cond b 1 0

bit_one : (j k : ℕ) (b : Bool) → eqb j k ≡ b → j ≡ k → bit b ≡ 1
bit_one j k true e same = refl
bit_one j k false e same = absurd (eqb-false j k e same)

bit_none : (j k : ℕ) (b : Bool) → eqb j k ≡ b → j ≢ k → bit b ≡ 0
bit_none j k true e other = absurd (other (eqb-true j k e))
bit_none j k false e other = refl

pub sum_of_unit : (sources : List (List ℕ)) (r place : ℕ) → get_or (get_or sources r []) place 0 < 256 → sum_at (unit_row (length sources) r) sources place ≡ get_or (get_or sources r []) place 0
sum_of_unit sources r place small =
    let long = length-map-range_with_len (λ i. cond (eqb i r) 1 0) 0 (length sources) in
    sum_one (unit_row (length sources) r) sources r place long
    (λ j lt same. unit_at (length sources) r j (omega (arith, lt, long)) ∙ bit_one j r (eqb j r) refl same)
    (λ j lt other. unit_at (length sources) r j (omega (arith, lt, long)) ∙ bit_none j r (eqb j r) refl other)
    small

pub holds_first : (sources : List (List ℕ)) (registers from size : ℕ) → ((r : ℕ) → r < registers → (k : ℕ) → get_or (get_or sources r []) k 0 < 256)
    → Holds (unit_rows (length sources) registers) (loaded sources from size registers) sources from size
holds_first sources registers from size small =
    let rows_long = length-map-range_with_len (unit_row (length sources)) 0 registers in
    let piece : ℕ → List ℕ = λ k. piece_of (get_or sources k []) from size in
    let lists_long = length-map-range_with_len piece 0 registers in
    let row : (r : ℕ) → r < registers → get_or (unit_rows (length sources) registers) r [] ≡ unit_row (length sources) r =
    λ r lt. get_or-map-range_with_len (unit_row (length sources)) 0 registers r r [] lt (omega arith) in
    let list : (r : ℕ) → r < registers → get_or (loaded sources from size registers) r [] ≡ piece_of (get_or sources r []) from size =
    λ r lt. get_or-map-range_with_len piece 0 registers r r [] lt (omega arith) in
    record {
      long = rows_long ∙ sym lists_long;
      factors = λ r lt. ap length (row r (omega (arith, lt, rows_long))) ∙ length-map-range_with_len (λ i. cond (eqb i r) 1 0) 0 (length sources);
      sizes = λ r lt. ap length (list r (omega (arith, lt, lists_long))) ∙ length-map-range_with_len (λ j. get_or (get_or sources r []) (from + j) 0) 0 size;
      sums = λ r k lt less.
          let inside : r < registers = omega (arith, lt, lists_long) in
          ap (λ xs. get_or xs k 0) (list r inside)
          ∙ get_or-map-range_with_len (λ j. get_or (get_or sources r []) (from + j) 0) 0 size k k 0 less (omega arith)
          ∙ sym (sum_of_unit sources r (from + k) (small r inside (from + k)))
          ∙ sym (ap (λ xs. sum_at xs sources (from + k)) (row r inside));
    }

-- the sums below a place, and those of a piece behind it
pub sums_more : (row : List ℕ) (sources : List (List ℕ)) (from size : ℕ) → sums_of row sources from ++ map (λ j. sum_at row sources (from + j)) (range_with_len 0 size) ≡ sums_of row sources (from + size)
sums_more row sources from size =
    fill_by_all (sum_at row sources) (first ++ second) (from + size) 0 (length-append first second ∙ omega (arith, first_long, second_long)) (λ k lt. either k lt (ltb k from) refl)
  where
    first : List ℕ
    first = sums_of row sources from

    second : List ℕ
    second = map (λ j. sum_at row sources (from + j)) (range_with_len 0 size)

    first_long : length first ≡ from
    first_long = length-map-range_with_len (sum_at row sources) 0 from

    second_long : length second ≡ size
    second_long = length-map-range_with_len (λ j. sum_at row sources (from + j)) 0 size

    either : (k : ℕ) → k < from + size → (b : Bool) → ltb k from ≡ b → get_or (first ++ second) k 0 ≡ sum_at row sources k
    either k lt true e =
        let small = ltb-true k from e in
        get_or_append_left first second 0 k (omega (arith, first_long)) ∙ get_or-map-range_with_len (sum_at row sources) 0 from k k 0 small (omega arith)
    either k lt false e =
        let past = ltb-false k from e in
        let back : from + (k - from) ≡ k = omega arith in
        get_or-append_right first second from k 0 first_long past ∙ get_or-map-range_with_len (λ j. sum_at row sources (from + j)) 0 size (k - from) (k - from) 0 (omega arith) (omega arith) ∙ ap (sum_at row sources) back

pub piece_kept : (steps : List Step) (places : List ℕ) (registers from size : ℕ) (sources : List (List ℕ)) → All (IsAllowed registers) steps → All (λ place. place < registers) places
    → ((r : ℕ) → r < registers → (k : ℕ) → get_or (get_or sources r []) k 0 < 256)
    → map (λ k. get_or (map (λ row. sums_of row sources from) (picked places (after_steps (unit_rows (length sources) registers) steps))) k []
    ++ get_or (picked places (after_steps (loaded sources from size registers) steps)) k []) (range_with_len 0 (length places))
    ≡ map (λ row. sums_of row sources (from + size)) (picked places (after_steps (unit_rows (length sources) registers) steps))
piece_kept steps places registers from size sources allowed inside small =
    sym (fill_by_all (λ k. get_or (map before rows) k [] ++ get_or (picked places lists) k []) (map after rows) (length places) [] (length-map rows after ∙ count) each)
  where
    table : List (List ℕ)
    table = after_steps (unit_rows (length sources) registers) steps

    lists : List (List ℕ)
    lists = after_steps (loaded sources from size registers) steps

    rows : List (List ℕ)
    rows = picked places table

    before : List ℕ → List ℕ
    before row = sums_of row sources from

    after : List ℕ → List ℕ
    after row = sums_of row sources (from + size)

    piece : List ℕ → List ℕ
    piece row = map (λ j. sum_at row sources (from + j)) (range_with_len 0 size)

    count : length rows ≡ length places
    count = length-map places (λ place. get_or table place [])

    first_long : length (loaded sources from size registers) ≡ registers
    first_long = length-map-range_with_len (λ k. piece_of (get_or sources k []) from size) 0 registers

    lists_long : length lists ≡ registers
    lists_long = length-after_steps steps (loaded sources from size registers) ∙ first_long

    held : Holds table lists sources from size
    held = holds_steps steps (unit_rows (length sources) registers) (loaded sources from size registers) sources from size (holds_first sources registers from size small)
        (subst (λ n. All (IsAllowed n) steps) (sym first_long) allowed)

    piece_is : (place : ℕ) → place < registers → get_or lists place [] ≡ piece (get_or table place [])
    piece_is place lt =
        fill_by_all (λ j. sum_at (get_or table place []) sources (from + j)) (get_or lists place []) size 0 (held.sizes place (omega (arith, lists_long))) (λ j less. held.sums place j (omega (arith, lists_long)) less)

    each : (k : ℕ) → k < length places → get_or (map after rows) k [] ≡ get_or (map before rows) k [] ++ get_or (picked places lists) k []
    each k lt =
        let in_rows : k < length rows = omega (arith, count) in
        let row = get_or rows k [] in
        get_or-map after rows k [] [] in_rows
        ∙ sym (sums_more row sources from size)
        ∙ ap (λ xs. xs ++ piece row) (sym (get_or-map before rows k [] [] in_rows))
        ∙ ap (λ r. get_or (map before rows) k [] ++ piece r) (get_or-map (λ place. get_or table place []) places k 0 [] lt)
        ∙ ap (λ xs. get_or (map before rows) k [] ++ xs) (sym (piece_is (get_or places k 0) (inside k 0 lt)) ∙ sym (get_or-map (λ place. get_or lists place []) places k 0 [] lt))

pub nothing_kept : (places : List ℕ) (table sources : List (List ℕ)) → replicate (length places) [] ≡ map (λ row. sums_of row sources 0) (picked places table)
nothing_kept [] table sources = refl
nothing_kept (place ∷ places) table sources = ap (λ xs. [] ∷ xs) (nothing_kept places table sources)

pub kept_more : (steps : List Step) (places seen : List ℕ) (registers count from size : ℕ) (sources old new lists table : List (List ℕ)) → All (IsAllowed registers) steps → All (λ place. place < registers) places
    → count ≡ registers → ((r : ℕ) → r < count → (k : ℕ) → get_or (get_or sources r []) k 0 < 256)
    → old ≡ map (λ row. sums_of row sources from) (picked places (after_steps (unit_rows (length sources) registers) steps))
    → lists ≡ loaded sources from size count → table ≡ after_steps lists steps
    → seen ≡ places → new ≡ map (λ k. get_or old k [] ++ get_or (picked seen table) k []) (range_with_len 0 (length seen))
    → new ≡ map (λ row. sums_of row sources (from + size)) (picked places (after_steps (unit_rows (length sources) registers) steps))
kept_more steps places seen registers count from size sources old new lists table allowed inside all small before first last same e =
    let rows = picked places (after_steps (unit_rows (length sources) registers) steps) in
    e
    ∙ ap (λ ps. map (λ k. get_or old k [] ++ get_or (picked ps table) k []) (range_with_len 0 (length ps))) same
    ∙ ap (λ os. map (λ k. get_or os k [] ++ get_or (picked places table) k []) (range_with_len 0 (length places))) before
    ∙ ap (λ t. map (λ k. get_or (map (λ row. sums_of row sources from) rows) k [] ++ get_or (picked places t) k []) (range_with_len 0 (length places)))
    (last ∙ ap (λ ls. after_steps ls steps) (first ∙ ap (loaded sources from size) all))
    ∙ piece_kept steps places registers from size sources allowed inside (λ r lt. small r (omega (arith, lt, all)))

pub kept_none : (places : List ℕ) (count : ℕ) (table sources outputs : List (List ℕ)) → count ≡ length places → outputs ≡ replicate count [] → outputs ≡ map (λ row. sums_of row sources 0) (picked places table)
kept_none places count table sources outputs all e = e ∙ ap (λ n. replicate n []) all ∙ nothing_kept places table sources
