-- The indexes that are held.
use Rattle.std.proofs.Common.{◌≡◌, ℕ, zero, suc, ◌+◌, ◌-◌, ◌<◌, ◌≤◌, min, List, [], ◌∷◌, ◌++◌, length, get_or, take, drop, refl, sym, ◌∙◌, ap, arith, true, false, cond, append_assoc, append-nil, length-take, get_or-take}
use Rattle.std.specs.Prelude.{Option, Some, None, is_some}
use Rattle.std.proofs.lemmas.List.Sums.{sum_by-cons}
use Rattle.std.proofs.lemmas.List.{drop_more, drop_all, length_push, length-take-le}
use Rattle.rs_code.proofs.Polynomials.{AreBytes, IsApart, AreApart}
use Rattle.rs_code.specs.Shards.{held_count, shard_at, held_from, held}

take-nil : (n : ℕ) → take {A = ℕ} n [] ≡ []
take-nil zero = refl
take-nil (suc n) = refl

pub held-more_none : (shards : List (Option (List ℕ))) (k : ℕ) → k < length shards → is_some (shard_at shards k) ≡ false → held_from k (drop k shards) ≡ held_from (k + 1) (drop (k + 1) shards)
held-more_none shards k h e = ap (held_from k) (drop_more shards k None h) ∙ go (shard_at shards k) e
  where
    go : (shard : Option (List ℕ)) → is_some shard ≡ false → held_from k (shard ∷ drop (k + 1) shards) ≡ held_from (k + 1) (drop (k + 1) shards)
    go None e = refl
    go (Some bytes) e = cc

pub held-more_some : (shards : List (Option (List ℕ))) (k : ℕ) → k < length shards → is_some (shard_at shards k) ≡ true → held_from k (drop k shards) ≡ k ∷ held_from (k + 1) (drop (k + 1) shards)
held-more_some shards k h e = ap (held_from k) (drop_more shards k None h) ∙ go (shard_at shards k) e
  where
    go : (shard : Option (List ℕ)) → is_some shard ≡ true → held_from k (shard ∷ drop (k + 1) shards) ≡ k ∷ held_from (k + 1) (drop (k + 1) shards)
    go None e = cc
    go (Some bytes) e = refl

-- the indexes that were found and those that the places from k on will give
pub found : ℕ → List (Option (List ℕ)) → List ℕ → ℕ → List ℕ
found n shards places k = places ++ take (n - length places) (held_from k (drop k shards))

pub found-first : (n : ℕ) (shards : List (Option (List ℕ))) → found n shards [] 0 ≡ take n (held shards)
unfolding found
found-first n shards =
    let all : n - 0 ≡ n = omega arith in
    ap (λ m. take m (held_from 0 shards)) all

pub found-skip : (n : ℕ) (shards : List (Option (List ℕ))) (places : List ℕ) (k : ℕ) → k < length shards → is_some (shard_at shards k) ≡ false → found n shards places (k + 1) ≡ found n shards places k
unfolding found
found-skip n shards places k h e = ap (λ x. places ++ take (n - length places) x) (sym (held-more_none shards k h e))

pub found-full : (n : ℕ) (shards : List (Option (List ℕ))) (places : List ℕ) (k : ℕ) → n ≤ length places → found n shards places (k + 1) ≡ found n shards places k
unfolding found
found-full n shards places k h =
    let none : n - length places ≡ 0 = omega arith in
    ap (λ m. places ++ take m (held_from (k + 1) (drop (k + 1) shards))) none
    ∙ sym (ap (λ m. places ++ take m (held_from k (drop k shards))) none)

pub found-more : (n : ℕ) (shards : List (Option (List ℕ))) (places : List ℕ) (k : ℕ) → k < length shards → is_some (shard_at shards k) ≡ true → length places < n → found n shards (places ++ k ∷ []) (k + 1) ≡ found n shards places k
unfolding found
found-more n shards places k h e small =
    let long : length (places ++ k ∷ []) ≡ length places + 1 = length_push places k in
    let left : n - length (places ++ k ∷ []) ≡ n - length places - 1 = omega arith in
    let one_more : n - length places ≡ suc (n - length places - 1) = omega arith in
    append_assoc places (k ∷ []) (take (n - length (places ++ k ∷ [])) (held_from (k + 1) (drop (k + 1) shards)))
    ∙ ap (λ m. places ++ (k ∷ take m (held_from (k + 1) (drop (k + 1) shards)))) left
    ∙ sym (ap (λ x. places ++ take (n - length places) x) (held-more_some shards k h e)
    ∙ ap (λ m. places ++ take m (k ∷ held_from (k + 1) (drop (k + 1) shards))) one_more)

pub found-last : (n : ℕ) (shards : List (Option (List ℕ))) (places : List ℕ) (k : ℕ) → length shards ≤ k → found n shards places k ≡ places
unfolding found
found-last n shards places k h =
    ap (λ x. places ++ take (n - length places) (held_from k x)) (drop_all k shards h)
    ∙ ap (λ x. places ++ x) (take-nil (n - length places))
    ∙ append-nil places

-- each index that is found is held
pub held_place : (shards : List (Option (List ℕ))) (k i : ℕ) → i < length (held_from k shards) → (j : ℕ) × (get_or (held_from k shards) i 0 ≡ k + j) × (j < length shards) × (is_some (shard_at shards j) ≡ true)
held_place [] k i h = absurd (omega arith)
held_place (None ∷ shards) k i h =
    let r = held_place shards (k + 1) i h in
    (suc r.0, omega (arith, r.1), omega (arith, r.2), r.3)
held_place (Some bytes ∷ shards) k zero h = (0, omega arith, omega arith, refl)
held_place (Some bytes ∷ shards) k (suc i) h =
    let r = held_place shards (k + 1) i (omega arith) in
    (suc r.0, omega (arith, r.1), omega (arith, r.2), r.3)

pub taken_is_held : (n : ℕ) (shards : List (Option (List ℕ))) (i : ℕ) → i < length (take n (held shards)) → is_some (shard_at shards (get_or (take n (held shards)) i 0)) ≡ true
taken_is_held n shards i h =
    let long : length (take n (held shards)) ≡ min n (length (held shards)) = length-take n (held shards) in
    let at : get_or (take n (held shards)) i 0 ≡ get_or (held shards) i 0 = get_or-take n (held shards) i 0 (omega arith) in
    let r = held_place shards 0 i (omega arith) in
    let place : get_or (held shards) i 0 ≡ r.0 = omega (arith, r.1) in
    ap (λ x. is_some (shard_at shards x)) (at ∙ place) ∙ r.3

-- ---- the indexes are as many as the shards, below the total, and rise
pub length-held_from : (shards : List (Option (List ℕ))) (k : ℕ) → length (held_from k shards) ≡ held_count shards
length-held_from [] k = refl
length-held_from (None ∷ shards) k = length-held_from shards (k + 1)
length-held_from (Some bytes ∷ shards) k =
    let count = sum_by-cons (λ (shard : Option (List ℕ)). cond (is_some shard) 1 0) (Some bytes) shards in
    omega (arith, length-held_from shards (k + 1), count)

bytes-held_from : (shards : List (Option (List ℕ))) (k : ℕ) → k + length shards ≤ 256 → AreBytes (held_from k shards)
bytes-held_from [] k h = tt
bytes-held_from (None ∷ shards) k h = bytes-held_from shards (k + 1) (omega arith)
bytes-held_from (Some bytes ∷ shards) k h = (omega arith, bytes-held_from shards (k + 1) (omega arith))

apart_below : (shards : List (Option (List ℕ))) (k x : ℕ) → x < k → IsApart x (held_from k shards)
apart_below [] k x h = tt
apart_below (None ∷ shards) k x h = apart_below shards (k + 1) x (omega arith)
apart_below (Some bytes ∷ shards) k x h = ((λ e. omega arith), apart_below shards (k + 1) x (omega arith))

apart-held_from : (shards : List (Option (List ℕ))) (k : ℕ) → AreApart (held_from k shards)
apart-held_from [] k = tt
apart-held_from (None ∷ shards) k = apart-held_from shards (k + 1)
apart-held_from (Some bytes ∷ shards) k = (apart_below shards (k + 1) k (omega arith), apart-held_from shards (k + 1))

bytes-take : (n : ℕ) (xs : List ℕ) → AreBytes xs → AreBytes (take n xs)
bytes-take zero xs h = tt
bytes-take (suc n) [] h = tt
bytes-take (suc n) (x ∷ xs) h = (h.0, bytes-take n xs h.1)

is_apart-take : (x n : ℕ) (xs : List ℕ) → IsApart x xs → IsApart x (take n xs)
is_apart-take x zero xs h = tt
is_apart-take x (suc n) [] h = tt
is_apart-take x (suc n) (z ∷ zs) h = (h.0, is_apart-take x n zs h.1)

apart-take : (n : ℕ) (xs : List ℕ) → AreApart xs → AreApart (take n xs)
apart-take zero xs h = tt
apart-take (suc n) [] h = tt
apart-take (suc n) (x ∷ xs) h = (is_apart-take x n xs h.0, apart-take n xs h.1)

pub bytes_of_taken : (n : ℕ) (shards : List (Option (List ℕ))) → length shards ≤ 256 → AreBytes (take n (held shards))
bytes_of_taken n shards h = bytes-take n (held shards) (bytes-held_from shards 0 (omega arith))

pub apart_of_taken : (n : ℕ) (shards : List (Option (List ℕ))) → AreApart (take n (held shards))
apart_of_taken n shards = apart-take n (held shards) (apart-held_from shards 0)

pub length_of_taken : (n : ℕ) (shards : List (Option (List ℕ))) → n ≤ held_count shards → length (take n (held shards)) ≡ n
length_of_taken n shards h = length-take-le n (held shards) (omega (arith, length-held_from shards 0))

-- the place at which an index that is held is found
pub found_place : (shards : List (Option (List ℕ))) (k j : ℕ) → is_some (shard_at shards j) ≡ true → (i : ℕ) × (i < length (held_from k shards)) × (get_or (held_from k shards) i 0 ≡ k + j)
found_place [] k j e = let impossible : ⊥ = cc in absurd impossible
found_place (None ∷ shards) k zero e = let impossible : ⊥ = cc in absurd impossible
found_place (None ∷ shards) k (suc j) e =
    let r = found_place shards (k + 1) j e in
    (r.0, r.1, omega (arith, r.2))
found_place (Some bytes ∷ shards) k zero e = (0, omega arith, omega arith)
found_place (Some bytes ∷ shards) k (suc j) e =
    let r = found_place shards (k + 1) j e in
    (suc r.0, omega (arith, r.1), omega (arith, r.2))
