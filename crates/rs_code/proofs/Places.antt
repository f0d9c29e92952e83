-- Sets of shards: padding, one more shard, and their common length.
use Rattle.std.proofs.Common.{◌≡◌, ℕ, zero, suc, ◌+◌, ◌-◌, ◌<◌, ◌≤◌, List, [], ◌∷◌, ◌++◌, length, set, replicate, refl, sym, ◌∙◌, ap, subst, arith, inl, inr, cond, length-append, append_assoc, get_or-set_other, get_or-set_same}
use Rattle.std.specs.Prelude.{Option, Some, None, IfSome, is_some}
use Rattle.std.proofs.lemmas.List.{length-set, length-replicate, set-append_left, replicate-append-replicate}
use Rattle.std.proofs.lemmas.Bool.{cases_eq}
use Rattle.std.proofs.lemmas.Option.{same_Some}
use Rattle.rs_code.specs.Shards.{shard_at, size_of, AreEven, completed_at, padded}

-- ---- places with nothing
size_of-replicate : (n : ℕ) → size_of (replicate n None) ≡ None
size_of-replicate zero = refl
size_of-replicate (suc n) = size_of-replicate n

shard_at-replicate : (n k : ℕ) → shard_at (replicate n None) k ≡ None
shard_at-replicate zero k = refl
shard_at-replicate (suc n) zero = refl
shard_at-replicate (suc n) (suc k) = shard_at-replicate n k

pub none_even : (n : ℕ) → AreEven (replicate n None)
none_even n k = rw (shard_at-replicate n k) tt

pub size_of-padded : (total : ℕ) (rows : List (Option (List ℕ))) → size_of (padded total rows) ≡ size_of rows
size_of-padded total rows = go rows (total - length rows)
  where
    go : (rows : List (Option (List ℕ))) (n : ℕ) → size_of (rows ++ replicate n None) ≡ size_of rows
    go [] n = size_of-replicate n
    go (None ∷ rows) n = go rows n
    go (Some bytes ∷ rows) n = refl

pub length-padded : (total : ℕ) (rows : List (Option (List ℕ))) → length rows ≤ total → length (padded total rows) ≡ total
length-padded total rows h = simp (length-append, length-replicate) (omega arith)

pub padded-more : (total : ℕ) (rows : List (Option (List ℕ))) (j : ℕ) → length rows + j ≤ total → padded total (rows ++ replicate j None) ≡ padded total rows
padded-more total rows j h =
    let long : length (rows ++ replicate j None) ≡ length rows + j = simp (length-append, length-replicate) refl in
    let left : total - length (rows ++ replicate j None) ≡ total - length rows - j = omega arith in
    let whole : j + (total - length rows - j) ≡ total - length rows = omega arith in
    ap (λ n. (rows ++ replicate j None) ++ replicate n None) left
    ∙ append_assoc rows (replicate j None) (replicate (total - length rows - j) None)
    ∙ ap (λ x. rows ++ x) (replicate-append-replicate j (total - length rows - j) None)
    ∙ ap (λ n. rows ++ replicate n None) whole

-- more empty rows show nothing new
pub same_padded : (total : ℕ) (old new : List (Option (List ℕ))) → new ≡ old ++ replicate (length new - length old) None → length old ≤ length new → length new ≤ total → padded total new ≡ padded total old
same_padded total old new e h k = ap (padded total) e ∙ padded-more total old (length new - length old) (omega arith)

pub padded-set : (total : ℕ) (rows : List (Option (List ℕ))) (i : ℕ) (shard : Option (List ℕ)) → i < length rows → padded total (set rows i shard) ≡ set (padded total rows) i shard
padded-set total rows i shard h =
    ap (λ n. set rows i shard ++ replicate (total - n) None) (length-set rows i shard)
    ∙ sym (set-append_left rows (replicate (total - length rows) None) i shard h)

pub replicate-more : (rows : List (Option (List ℕ))) (i n : ℕ) → n ≤ i → (rows ++ replicate (i - n) None) ++ None ∷ [] ≡ rows ++ replicate (i + 1 - n) None
replicate-more rows i n h =
    let more : i - n + 1 ≡ i + 1 - n = omega arith in
    append_assoc rows (replicate (i - n) None) (None ∷ [])
    ∙ ap (λ x. rows ++ x) (replicate-append-replicate (i - n) 1 None)
    ∙ ap (λ k. rows ++ replicate k None) more

-- ---- one length
pub size_of_each : (shards : List (Option (List ℕ))) (size k : ℕ) (bytes : List ℕ) → ((j : ℕ) → IfSome (shard_at shards j) (λ b. length b ≡ size)) → shard_at shards k ≡ Some bytes → size_of shards ≡ Some size
size_of_each [] size k bytes each e = cc
size_of_each (None ∷ shards) size zero bytes each e = cc
size_of_each (None ∷ shards) size (suc k) bytes each e = size_of_each shards size k bytes (λ j. each (suc j)) e
size_of_each (Some b ∷ shards) size k bytes each e = ap Some (each 0)

pub even_from_each : (shards : List (Option (List ℕ))) (size : ℕ) → ((j : ℕ) → IfSome (shard_at shards j) (λ b. length b ≡ size)) → AreEven shards
even_from_each shards size each k = go (shard_at shards k) refl
  where
    go : (shard : Option (List ℕ)) → shard_at shards k ≡ shard → IfSome shard (λ b. size_of shards ≡ Some (length b))
    go None e = tt
    go (Some bytes) e =
        let same : length bytes ≡ size = subst (λ s. IfSome s (λ b. length b ≡ size)) e (each k) in
        size_of_each shards size k bytes each e ∙ ap Some (sym same)

pub size_from_even : (shards : List (Option (List ℕ))) (k : ℕ) (bytes : List ℕ) → AreEven shards → shard_at shards k ≡ Some bytes → size_of shards ≡ Some (length bytes)
size_from_even shards k bytes even e = subst (λ s. IfSome s (λ b. size_of shards ≡ Some (length b))) e (even k)

pub even-set : (shards : List (Option (List ℕ))) (i : ℕ) (bytes : List ℕ) → i < length shards → AreEven shards → IfSome (size_of shards) (λ size. size ≡ length bytes) → AreEven (set shards i (Some bytes))
even-set shards i bytes h even fits = even_from_each (set shards i (Some bytes)) (length bytes) each
  where
    other : (k : ℕ) (shard : Option (List ℕ)) → shard_at shards k ≡ shard → IfSome shard (λ b. length b ≡ length bytes)
    other k None e = tt
    other k (Some b) e = subst (λ s. IfSome s (λ size. size ≡ length bytes)) (size_from_even shards k b even e) fits

    each : (k : ℕ) → IfSome (shard_at (set shards i (Some bytes)) k) (λ b. length b ≡ length bytes)
    each k = elim (cases_eq k i) [
      | inl same ↦ subst (λ s. IfSome s (λ b. length b ≡ length bytes)) (sym (ap (λ j. shard_at (set shards i (Some bytes)) j) same ∙ get_or-set_same shards i (Some bytes) None h)) refl
      | inr apart ↦ subst (λ s. IfSome s (λ b. length b ≡ length bytes)) (sym (get_or-set_other shards i k (Some bytes) None apart)) (other k (shard_at shards k) refl)
    ]

-- ---- shards completed by more rows
pub shard_at-padded : (total : ℕ) (rows : List (Option (List ℕ))) (k : ℕ) → shard_at (padded total rows) k ≡ shard_at rows k
shard_at-padded total rows k = go rows (total - length rows) k
  where
    go : (rows : List (Option (List ℕ))) (n k : ℕ) → shard_at (rows ++ replicate n None) k ≡ shard_at rows k
    go [] n k = shard_at-replicate n k
    go (row ∷ rows) n zero = refl
    go (row ∷ rows) n (suc k) = go rows n k

pub completed_at-padded : (total : ℕ) (old rows new : List (Option (List ℕ))) (k : ℕ) → shard_at new k ≡ completed_at old rows k → shard_at (padded total new) k ≡ completed_at (padded total old) rows k
completed_at-padded total old rows new k e =
    shard_at-padded total new k
    ∙ e
    ∙ ap (λ o. cond (is_some o) o (shard_at rows k)) (sym (shard_at-padded total old k))

completed_size : (old rows : List (Option (List ℕ))) (k : ℕ) (bytes : List ℕ) → AreEven old → (shard_at old k ≡ None → IfSome (shard_at rows k) (λ b. size_of old ≡ Some (length b))) → completed_at old rows k ≡ Some bytes → size_of old ≡ Some (length bytes)
completed_size old rows k bytes even fits e = go (shard_at old k) refl
  where
    go : (o : Option (List ℕ)) → shard_at old k ≡ o → size_of old ≡ Some (length bytes)
    go (Some b) at = size_from_even old k bytes even (at ∙ sym (ap (λ o. cond (is_some o) o (shard_at rows k)) at) ∙ e)
    go None at =
        let row : shard_at rows k ≡ Some bytes = sym (ap (λ o. cond (is_some o) o (shard_at rows k)) at) ∙ e in
        subst (λ o. IfSome o (λ b. size_of old ≡ Some (length b))) row (fits at)

pub completed_even : (old rows new : List (Option (List ℕ))) → AreEven old → ((k : ℕ) → shard_at old k ≡ None → IfSome (shard_at rows k) (λ b. size_of old ≡ Some (length b))) → ((k : ℕ) → shard_at new k ≡ completed_at old rows k) → AreEven new
completed_even old rows new even fits each k = go (shard_at new k) refl
  where
    size : (j : ℕ) (bytes : List ℕ) → shard_at new j ≡ Some bytes → size_of old ≡ Some (length bytes)
    size j bytes e = completed_size old rows j bytes even (fits j) (sym (each j) ∙ e)

    same : (bytes : List ℕ) → size_of old ≡ Some (length bytes) → (j : ℕ) (o : Option (List ℕ)) → shard_at new j ≡ o → IfSome o (λ b. length b ≡ length bytes)
    same bytes whole j None e = tt
    same bytes whole j (Some b) e = same_Some (length b) (length bytes) (sym (size j b e) ∙ whole)

    go : (o : Option (List ℕ)) → shard_at new k ≡ o → IfSome o (λ b. size_of new ≡ Some (length b))
    go None e = tt
    go (Some bytes) e = size_of_each new (length bytes) k bytes (λ j. same bytes (size k bytes e) j (shard_at new j) refl) e
