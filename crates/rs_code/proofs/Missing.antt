-- The indexes that aren't held, and rows that go to them.
use Rattle.std.proofs.Common.{◌≡◌, ℕ, ◌+◌, ◌<◌, ◌≤◌, List, [], ◌∷◌, ◌++◌, length, drop, map, refl, sym, ◌∙◌, ap, arith, true, false, cond, append_assoc, append-nil}
use Rattle.std.specs.Prelude.{Option, Some, None, is_some}
use Rattle.std.specs.List.{range_with_len}
use Rattle.std.proofs.lemmas.List.{drop_more, drop_all}
use Rattle.std.proofs.lemmas.List.FromFn.{map-range_with_len_more}
use Rattle.rs_code.specs.Shards.{shard_at, missing_from, missing, spread_at}

pub missing_here : (shards : List (Option (List ℕ))) (k : ℕ) → k < length shards → is_some (shard_at shards k) ≡ false → missing_from k (drop k shards) ≡ k ∷ missing_from (k + 1) (drop (k + 1) shards)
missing_here shards k h e = ap (missing_from k) (drop_more shards k None h) ∙ go (shard_at shards k) e
  where
    go : (shard : Option (List ℕ)) → is_some shard ≡ false → missing_from k (shard ∷ drop (k + 1) shards) ≡ k ∷ missing_from (k + 1) (drop (k + 1) shards)
    go None e = refl
    go (Some bytes) e = cc

pub not_missing_here : (shards : List (Option (List ℕ))) (k : ℕ) → k < length shards → is_some (shard_at shards k) ≡ true → missing_from k (drop k shards) ≡ missing_from (k + 1) (drop (k + 1) shards)
not_missing_here shards k h e = ap (missing_from k) (drop_more shards k None h) ∙ go (shard_at shards k) e
  where
    go : (shard : Option (List ℕ)) → is_some shard ≡ true → missing_from k (shard ∷ drop (k + 1) shards) ≡ missing_from (k + 1) (drop (k + 1) shards)
    go None e = cc
    go (Some bytes) e = refl

-- ---- rows for the indexes so far, and those that the places from k on will give
pub made_so_far : {A : Type 0} → (ℕ → A) → List (Option (List ℕ)) → List A → ℕ → List A
made_so_far row_of shards rows k = rows ++ map row_of (missing_from k (drop k shards))

pub made_first : {A : Type 0} (row_of : ℕ → A) (shards : List (Option (List ℕ))) → made_so_far row_of shards [] 0 ≡ map row_of (missing shards)
unfolding made_so_far
made_first row_of shards = refl

pub made_skip : {A : Type 0} (row_of : ℕ → A) (shards : List (Option (List ℕ))) (rows : List A) (k : ℕ) → k < length shards → is_some (shard_at shards k) ≡ true → made_so_far row_of shards rows (k + 1) ≡ made_so_far row_of shards rows k
unfolding made_so_far
made_skip row_of shards rows k h e = ap (λ x. rows ++ map row_of x) (sym (not_missing_here shards k h e))

pub made_more : {A : Type 0} (row_of : ℕ → A) (shards : List (Option (List ℕ))) (rows : List A) (k : ℕ) → k < length shards → is_some (shard_at shards k) ≡ false → made_so_far row_of shards (rows ++ row_of k ∷ []) (k + 1) ≡ made_so_far row_of shards rows k
unfolding made_so_far
made_more row_of shards rows k h e =
    append_assoc rows (row_of k ∷ []) (map row_of (missing_from (k + 1) (drop (k + 1) shards)))
    ∙ ap (λ x. rows ++ map row_of x) (sym (missing_here shards k h e))

pub made_last : {A : Type 0} (row_of : ℕ → A) (shards : List (Option (List ℕ))) (rows : List A) (k : ℕ) → length shards ≤ k → made_so_far row_of shards rows k ≡ rows
unfolding made_so_far
made_last row_of shards rows k h = ap (λ x. rows ++ map row_of (missing_from k x)) (drop_all k shards h) ∙ append-nil rows

-- ---- rows that go to the indexes that aren't held
pub spread_held : (row_of : ℕ → List ℕ) (shards : List (Option (List ℕ))) (k : ℕ) (left : List (List ℕ)) → k < length shards → is_some (shard_at shards k) ≡ true
    → left ≡ map row_of (missing_from k (drop k shards)) → (None ≡ spread_at shards row_of k) × (left ≡ map row_of (missing_from (k + 1) (drop (k + 1) shards)))
spread_held row_of shards k left h some e = (
  sym (ap (λ t. cond t None (Some (row_of k))) some),
  e ∙ ap (map row_of) (not_missing_here shards k h some),
)

pub spread_missing : (row_of : ℕ → List ℕ) (shards : List (Option (List ℕ))) (k : ℕ) (left : List (List ℕ)) → k < length shards → is_some (shard_at shards k) ≡ false
    → left ≡ map row_of (missing_from k (drop k shards)) → left ≡ row_of k ∷ map row_of (missing_from (k + 1) (drop (k + 1) shards))
spread_missing row_of shards k left h none e = e ∙ ap (map row_of) (missing_here shards k h none)

pub rows_more : (shards : List (Option (List ℕ))) (row_of : ℕ → List ℕ) (k : ℕ) (rows new : List (Option (List ℕ))) (row : Option (List ℕ)) → rows ≡ map (spread_at shards row_of) (range_with_len 0 k)
    → row ≡ spread_at shards row_of k → new ≡ rows ++ row ∷ [] → new ≡ map (spread_at shards row_of) (range_with_len 0 (k + 1))
rows_more shards row_of k rows new row before here e =
    e
    ∙ ap (λ xs. xs ++ row ∷ []) before
    ∙ ap (λ r. map (spread_at shards row_of) (range_with_len 0 k) ++ r ∷ []) here
    ∙ sym (map-range_with_len_more (spread_at shards row_of) 0 k k (omega arith))
