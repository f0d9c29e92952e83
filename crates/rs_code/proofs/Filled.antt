-- Filling: the missing rows, and what they complete.
use Rattle.std.proofs.Common.{◌≡◌, ℕ, ◌<◌, List, [], ◌∷◌, ◌++◌, length, length-append, take, map, refl, sym, ◌∙◌, ap, subst, arith, inl, inr, cond}
use Rattle.std.specs.Prelude.{Option, Some, None, IfSome, is_some, unwrap_or}
use Rattle.std.specs.List.{range_with_len}
use Rattle.std.proofs.lemmas.Bool.{cases_lt}
use Rattle.std.proofs.lemmas.List.{get_or_past, length-map}
use Rattle.std.proofs.lemmas.List.FromFn.{fill_by_all, length-map-range_with_len, get_or-map-range_with_len}
use Rattle.rs_code.specs.Shards.{shard_at, held_count, held, missing, bytes_of, size_of, completed_at, spread_at}
use Rattle.rs_code.specs.ShardValue.{weights, value_at, points_of, row_through, rebuilt, filled}
use Rattle.gf256.specs.Sums.{sums_of}
use Rattle.rs_code.proofs.Weights.{outputs_are_rows}

pub length-row_through : (shards : List (Option (List ℕ))) (indexes : List ℕ) (r : ℕ) → length (row_through shards indexes r) ≡ unwrap_or (size_of shards) 0
length-row_through shards indexes r = length-map-range_with_len (λ p. value_at (points_of shards p indexes) r) 0 (unwrap_or (size_of shards) 0)

pub size_when_held : (shards : List (Option (List ℕ))) → 0 < held_count shards → size_of shards ≡ Some (unwrap_or (size_of shards) 0)
size_when_held [] h = absurd (omega arith)
size_when_held (None ∷ shards) h = size_when_held shards h
size_when_held (Some bytes ∷ shards) h = refl

missing_when_none : (shards : List (Option (List ℕ))) (indexes : List ℕ) (k : ℕ) → shard_at shards k ≡ None → spread_at shards (row_through shards indexes) k ≡ Some (row_through shards indexes k)
missing_when_none shards indexes k e = ap (λ o. cond (is_some o) None (Some (row_through shards indexes k))) e

pub missing_even : (shards : List (Option (List ℕ))) (indexes : List ℕ) (rows : List (Option (List ℕ))) (total k : ℕ) → rows ≡ map (spread_at shards (row_through shards indexes)) (range_with_len 0 total) → 0 < held_count shards → shard_at shards k ≡ None → IfSome (shard_at rows k) (λ b. size_of shards ≡ Some (length b))
missing_even shards indexes rows total k whole some none = elim (cases_lt k total) [
  | inl h ↦
      let row : shard_at rows k ≡ Some (row_through shards indexes k) =
      ap (λ xs. shard_at xs k) whole
      ∙ get_or-map-range_with_len (spread_at shards (row_through shards indexes)) 0 total k k None h (omega arith)
      ∙ missing_when_none shards indexes k none in
      subst (λ o. IfSome o (λ b. size_of shards ≡ Some (length b))) (sym row) (size_when_held shards some ∙ ap Some (sym (length-row_through shards indexes k)))
  | inr h ↦
      let long : length rows ≡ total = ap length whole ∙ length-map-range_with_len (spread_at shards (row_through shards indexes)) 0 total in
      subst (λ o. IfSome o (λ b. size_of shards ≡ Some (length b))) (sym (get_or_past rows k None (omega arith))) tt
]

pub filled_from_completed : (n : ℕ) (shards new rows : List (Option (List ℕ))) → length new ≡ length shards → ((k : ℕ) → shard_at new k ≡ completed_at shards rows k) → rows ≡ map (spread_at shards (row_through shards (take n (held shards)))) (range_with_len 0 (length shards)) → new ≡ filled n shards
unfolding filled rebuilt
filled_from_completed n shards new rows long each whole =
    fill_by_all (λ k. Some (unwrap_or (shard_at shards k) (row_through shards (take n (held shards)) k))) new (length shards) None long
    (λ k h. each k ∙ go k h (shard_at shards k) refl)
  where
    go : (k : ℕ) → k < length shards → (o : Option (List ℕ)) → shard_at shards k ≡ o → completed_at shards rows k ≡ Some (unwrap_or (shard_at shards k) (row_through shards (take n (held shards)) k))
    go k h (Some bytes) e =
        ap (λ o. cond (is_some o) o (shard_at rows k)) e
        ∙ sym (ap (λ o. Some (unwrap_or o (row_through shards (take n (held shards)) k))) e)
    go k h None e =
        ap (λ o. cond (is_some o) o (shard_at rows k)) e
        ∙ ap (λ xs. shard_at xs k) whole
        ∙ get_or-map-range_with_len (spread_at shards (row_through shards (take n (held shards)))) 0 (length shards) k k None h (omega arith)
        ∙ missing_when_none shards (take n (held shards)) k e
        ∙ sym (ap (λ o. Some (unwrap_or o (row_through shards (take n (held shards)) k))) e)

-- the rows that complete the shards, from the sums of the rows of weights
pub rows_complete : (shards : List (Option (List ℕ))) (n total : ℕ) (places same : List ℕ) (rows outputs : List (List ℕ)) (new : List (Option (List ℕ)))
    → places ≡ take n (held shards) → same ≡ take n (held shards) → rows ≡ map (weights places) (missing shards)
    → outputs ≡ map (λ row. sums_of row (bytes_of shards same) (unwrap_or (size_of shards) 0)) rows
    → ((row_of : ℕ → List ℕ) → outputs ≡ map row_of (missing shards) → new ≡ map (spread_at shards row_of) (range_with_len 0 total))
    → new ≡ map (spread_at shards (row_through shards (take n (held shards)))) (range_with_len 0 total)
rows_complete shards n total places same rows outputs new at at2 weighed summed spread =
    spread (row_through shards (take n (held shards)))
    (outputs_are_rows shards (take n (held shards)) (missing shards) rows outputs
    (weighed ∙ ap (λ xs. map (weights xs) (missing shards)) at)
    (summed ∙ ap (λ xs. map (λ row. sums_of row (bytes_of shards xs) (unwrap_or (size_of shards) 0)) rows) at2))

-- what is taken from the end of one output
pub last_of_one : {A : Type 0} (bytes : A → List ℕ) (outputs left : List A) (output : A) (sum : List ℕ) → outputs ≡ left ++ output ∷ [] → map bytes outputs ≡ sum ∷ [] → bytes output ≡ sum
last_of_one bytes outputs [] output sum e f = let one : bytes output ∷ [] ≡ sum ∷ [] = sym (ap (map bytes) e) ∙ f in cc
last_of_one bytes outputs (first ∷ left) output sum e f =
    let long : length (map bytes ((first ∷ left) ++ output ∷ [])) ≡ length ((first ∷ left) ++ output ∷ []) = length-map ((first ∷ left) ++ output ∷ []) bytes in
    absurd (omega (arith, long, ap length (sym (ap (map bytes) e) ∙ f), length-append (first ∷ left) (output ∷ [])))
