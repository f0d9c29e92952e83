-- From any n shards of a consistent set come all.
use Rattle.std.proofs.Common.{◌≡◌, ℕ, zero, suc, ◌<◌, ◌≤◌, List, [], ◌∷◌, length, get_or, take, map, refl, sym, ◌∙◌, ap, subst, arith, inl, inr, true, false}
use Rattle.std.specs.Prelude.{Option, Some, None, IfSome, All, is_some, unwrap_or}
use Rattle.std.proofs.lemmas.Bool.{cases_lt}
use Rattle.std.proofs.lemmas.List.{take_all, get_or_past}
use Rattle.std.proofs.lemmas.List.FromFn.{fill_by_all, length-map-range_with_len, get_or-map-range_with_len}
use Rattle.std.proofs.lemmas.Option.{same_Some}
use Rattle.rs_code.specs.Shards.{shard_at, held_count, held, size_of, AreEven, AreByteStrings, IsPartOf}
use Rattle.rs_code.specs.ShardValue.{value_at, byte_at, points_of, rebuilt, filled, IsConsistent}
use Rattle.rs_code.proofs.Places.{size_from_even, size_of_each}
use Rattle.rs_code.proofs.Held.{held_place, taken_is_held, bytes_of_taken, apart_of_taken, length_of_taken, length-held_from, found_place}
use Rattle.rs_code.proofs.Weights.{places_of_points}
use Rattle.rs_code.proofs.Polynomials.{AreBytes, AreApart}
use Rattle.rs_code.proofs.Interpolants.{value_at-below, value_at_own, value_at_of_others}
use Rattle.rs_code.proofs.Filled.{length-row_through}

get_or-points_of : (shards : List (Option (List ℕ))) (p : ℕ) (xs : List ℕ) (i : ℕ) → i < length xs → get_or (points_of shards p xs) i (0, 0) ≡ (get_or xs i 0, byte_at (shard_at shards (get_or xs i 0)) p)
get_or-points_of shards p [] i h = absurd (omega arith)
get_or-points_of shards p (x ∷ xs) zero h = refl
get_or-points_of shards p (x ∷ xs) (suc i) h = get_or-points_of shards p xs i (omega arith)

length-points_of : (shards : List (Option (List ℕ))) (p : ℕ) (xs : List ℕ) → length (points_of shards p xs) ≡ length xs
length-points_of shards p [] = refl
length-points_of shards p (x ∷ xs) = ap suc (length-points_of shards p xs)

length-rebuilt : (n : ℕ) (shards : List (Option (List ℕ))) (k : ℕ) → length (rebuilt n shards k) ≡ unwrap_or (size_of shards) 0
unfolding rebuilt
length-rebuilt n shards k = length-row_through shards (take n (held shards)) k

byte_of_rebuilt : (n : ℕ) (shards : List (Option (List ℕ))) (k p : ℕ) → p < unwrap_or (size_of shards) 0 → get_or (rebuilt n shards k) p 0 ≡ value_at (points_of shards p (take n (held shards))) k
unfolding rebuilt
byte_of_rebuilt n shards k p h =
    get_or-map-range_with_len (λ q. value_at (points_of shards q (take n (held shards))) k) 0 (unwrap_or (size_of shards) 0) p p 0 h (omega arith)

-- a string is the rebuilt shard where each of its bytes is
same_as_rebuilt : (n : ℕ) (shards : List (Option (List ℕ))) (k : ℕ) (bytes : List ℕ) → length bytes ≡ unwrap_or (size_of shards) 0 → ((p : ℕ) → p < unwrap_or (size_of shards) 0 → get_or bytes p 0 ≡ value_at (points_of shards p (take n (held shards))) k) → bytes ≡ rebuilt n shards k
unfolding rebuilt
same_as_rebuilt n shards k bytes long each =
    fill_by_all (λ q. value_at (points_of shards q (take n (held shards))) k) bytes (unwrap_or (size_of shards) 0) 0 long each

-- ---- a set of n shards is consistent
own_byte : (n : ℕ) (shards : List (Option (List ℕ))) (k : ℕ) (bytes : List ℕ) (p : ℕ) → held_count shards ≡ n → length shards ≤ 256 → shard_at shards k ≡ Some bytes → get_or bytes p 0 < 256 → get_or bytes p 0 ≡ value_at (points_of shards p (take n (held shards))) k
own_byte n shards k bytes p count total e byte =
    let r = found_place shards 0 k (ap is_some e) in
    let whole : take n (held shards) ≡ held shards = take_all n (held shards) (omega (arith, length-held_from shards 0)) in
    let i_below : r.0 < length (take n (held shards)) = subst (λ xs. r.0 < length xs) (sym whole) r.1 in
    let at : get_or (take n (held shards)) r.0 0 ≡ k = ap (λ xs. get_or xs r.0 0) whole ∙ omega (arith, r.2) in
    let point : get_or (points_of shards p (take n (held shards))) r.0 (0, 0) ≡ (k, get_or bytes p 0) =
    get_or-points_of shards p (take n (held shards)) r.0 i_below
    ∙ ap (λ x. (x, byte_at (shard_at shards x) p)) at
    ∙ ap (λ o. (k, byte_at o p)) e in
    let places : map (λ (q : ℕ × ℕ). q.0) (points_of shards p (take n (held shards))) ≡ take n (held shards) = places_of_points shards p (take n (held shards)) in
    sym (ap (λ q. value_at (points_of shards p (take n (held shards))) q.0) (sym point)
    ∙ value_at_own (points_of shards p (take n (held shards))) r.0
    (subst AreBytes (sym places) (bytes_of_taken n shards total))
    (subst AreApart (sym places) (apart_of_taken n shards))
    (omega (arith, length-points_of shards p (take n (held shards)), i_below))
    (subst (λ (q : ℕ × ℕ). q.1 < 256) (sym point) byte)
    ∙ ap (λ q. q.1) point)

pub consistent_when_n_held : (n : ℕ) (shards : List (Option (List ℕ))) → held_count shards ≡ n → length shards ≤ 256 → AreEven shards → AreByteStrings shards → IsConsistent n shards
consistent_when_n_held n shards count total even strings k = go (shard_at shards k) refl
  where
    go : (o : Option (List ℕ)) → shard_at shards k ≡ o → IfSome o (λ bytes. bytes ≡ rebuilt n shards k)
    go None e = tt
    go (Some bytes) e =
        let size : unwrap_or (size_of shards) 0 ≡ length bytes = ap (λ o. unwrap_or o 0) (size_from_even shards k bytes even e) in
        let all : All (λ b. b < 256) bytes = subst (λ o. IfSome o (All (λ b. b < 256))) e (strings k) in
        same_as_rebuilt n shards k bytes (sym size) (λ p h. own_byte n shards k bytes p count total e (all p 0 (omega arith)))

-- ---- a set that is part of a filled one
shard_of_filled' : (n : ℕ) (shards : List (Option (List ℕ))) (k : ℕ) (o : Option (List ℕ)) → IfSome o (λ b. b ≡ rebuilt n shards k) → unwrap_or o (rebuilt n shards k) ≡ rebuilt n shards k
shard_of_filled' n shards k None h = refl
shard_of_filled' n shards k (Some bytes) h = h

pub shard_of_filled : (n : ℕ) (shards : List (Option (List ℕ))) (k : ℕ) → IsConsistent n shards → k < length shards → shard_at (filled n shards) k ≡ Some (rebuilt n shards k)
unfolding filled
shard_of_filled n shards k consistent h =
    get_or-map-range_with_len (λ j. Some (unwrap_or (shard_at shards j) (rebuilt n shards j))) 0 (length shards) k k None h (omega arith)
    ∙ ap Some (shard_of_filled' n shards k (shard_at shards k) (consistent k))

filled_by_places : (n : ℕ) (shards new : List (Option (List ℕ))) → length new ≡ length shards → ((k : ℕ) → k < length shards → shard_at new k ≡ Some (unwrap_or (shard_at shards k) (rebuilt n shards k))) → new ≡ filled n shards
unfolding filled
filled_by_places n shards new long each =
    fill_by_all (λ k. Some (unwrap_or (shard_at shards k) (rebuilt n shards k))) new (length shards) None long each

-- ---- fewer shards of a filled set give the same
abbrev IsRest : ℕ → List (Option (List ℕ)) → List (Option (List ℕ)) → Type 0
IsRest n shards fewer = (0 < n) × (length shards ≤ 256) × (n ≤ held_count shards) × IsConsistent n shards × IsPartOf fewer (filled n shards) × (n ≤ held_count fewer)

length-filled : (n : ℕ) (shards : List (Option (List ℕ))) → length (filled n shards) ≡ length shards
unfolding filled
length-filled n shards = length-map-range_with_len (λ j. Some (unwrap_or (shard_at shards j) (rebuilt n shards j))) 0 (length shards)

-- an index that is held has its shard of the filled set
held_in_rest : (n : ℕ) (shards fewer : List (Option (List ℕ))) (k : ℕ) → IsConsistent n shards → IsPartOf fewer (filled n shards) → is_some (shard_at fewer k) ≡ true → shard_at fewer k ≡ Some (rebuilt n shards k)
held_in_rest n shards fewer k consistent part some = elim (part.1 k) [
  | inl none ↦ (let bad : false ≡ true = ap is_some (sym none) ∙ some in let impossible : ⊥ = cc in absurd impossible)
  | inr same ↦ elim (cases_lt k (length shards)) [
    | inl h ↦ same ∙ shard_of_filled n shards k consistent h
    | inr h ↦
        let none : shard_at (filled n shards) k ≡ None = get_or_past (filled n shards) k None (omega (arith, length-filled n shards)) in
        let bad : false ≡ true = ap is_some (sym (same ∙ none)) ∙ some in
        let impossible : ⊥ = cc in
        absurd impossible
  ]
]

-- a shard is held, so the length is that of the filled set
size_of_rest : (n : ℕ) (shards fewer : List (Option (List ℕ))) → IsConsistent n shards → IsPartOf fewer (filled n shards) → 0 < held_count fewer → size_of fewer ≡ Some (unwrap_or (size_of shards) 0)
size_of_rest n shards fewer consistent part some =
    let r = held_place fewer 0 0 (omega (arith, length-held_from fewer 0)) in
    size_of_each fewer (unwrap_or (size_of shards) 0) r.0 (rebuilt n shards r.0) (λ j. each j (shard_at fewer j) refl) (held_in_rest n shards fewer r.0 consistent part r.3)
  where
    each : (j : ℕ) (o : Option (List ℕ)) → shard_at fewer j ≡ o → IfSome o (λ b. length b ≡ unwrap_or (size_of shards) 0)
    each j None e = tt
    each j (Some bytes) e =
        let same : bytes ≡ rebuilt n shards j = same_Some bytes (rebuilt n shards j) (sym e ∙ held_in_rest n shards fewer j consistent part (ap is_some e)) in
        ap length same ∙ length-rebuilt n shards j

rest_byte : (n : ℕ) (shards fewer : List (Option (List ℕ))) (k p : ℕ) → IsRest n shards fewer → p < unwrap_or (size_of shards) 0 → value_at (points_of fewer p (take n (held fewer))) k ≡ value_at (points_of shards p (take n (held shards))) k
rest_byte n shards fewer k p h lt =
    value_at_of_others (points_of shards p (take n (held shards))) (points_of fewer p (take n (held fewer))) k
    (subst AreBytes (sym places) (bytes_of_taken n fewer (omega (arith, h.4.0, length-filled n shards, h.1))))
    (subst AreApart (sym places) (apart_of_taken n fewer))
    (length-points_of shards p (take n (held shards)) ∙ length_of_taken n shards h.2 ∙ sym (length_of_taken n fewer h.5) ∙ sym (length-points_of fewer p (take n (held fewer))))
    on
  where
    places : map (λ (q : ℕ × ℕ). q.0) (points_of fewer p (take n (held fewer))) ≡ take n (held fewer)
    places = places_of_points fewer p (take n (held fewer))

    on : (i : ℕ) → i < length (points_of fewer p (take n (held fewer))) → ((get_or (points_of fewer p (take n (held fewer))) i (0, 0)).1 < 256) × ((get_or (points_of fewer p (take n (held fewer))) i (0, 0)).1 ≡ value_at (points_of shards p (take n (held shards))) (get_or (points_of fewer p (take n (held fewer))) i (0, 0)).0)
    on i within =
        let below : i < length (take n (held fewer)) = omega (arith, length-points_of fewer p (take n (held fewer)), within) in
        let point : get_or (points_of fewer p (take n (held fewer))) i (0, 0) ≡ (get_or (take n (held fewer)) i 0, value_at (points_of shards p (take n (held shards))) (get_or (take n (held fewer)) i 0)) =
        get_or-points_of fewer p (take n (held fewer)) i below
        ∙ ap (λ y. (get_or (take n (held fewer)) i 0, y))
        (ap (λ o. byte_at o p) (held_in_rest n shards fewer (get_or (take n (held fewer)) i 0) h.3 h.4 (taken_is_held n fewer i below))
        ∙ byte_of_rebuilt n shards (get_or (take n (held fewer)) i 0) p lt) in
        subst (λ (q : ℕ × ℕ). (q.1 < 256) × (q.1 ≡ value_at (points_of shards p (take n (held shards))) q.0)) (sym point)
        (value_at-below (points_of shards p (take n (held shards))) (get_or (take n (held fewer)) i 0), refl)

same_rebuilt : (n : ℕ) (shards fewer : List (Option (List ℕ))) (k : ℕ) → IsRest n shards fewer → rebuilt n fewer k ≡ rebuilt n shards k
same_rebuilt n shards fewer k h =
    let size : unwrap_or (size_of fewer) 0 ≡ unwrap_or (size_of shards) 0 = ap (λ o. unwrap_or o 0) (size_of_rest n shards fewer h.3 h.4 (omega (arith, h.0, h.5))) in
    same_as_rebuilt n shards k (rebuilt n fewer k) (length-rebuilt n fewer k ∙ size)
    (λ p lt. byte_of_rebuilt n fewer k p (omega (arith, size, lt)) ∙ rest_byte n shards fewer k p h lt)

pub rest_gives_each : (n : ℕ) (shards fewer : List (Option (List ℕ))) (k : ℕ) → 0 < n → length shards ≤ 256 → n ≤ held_count shards → IsConsistent n shards → IsPartOf fewer (filled n shards) → n ≤ held_count fewer → k < length shards → shard_at (filled n shards) k ≡ Some (rebuilt n fewer k)
rest_gives_each n shards fewer k some total enough consistent part left h =
    shard_of_filled n shards k consistent h
    ∙ ap Some (sym (same_rebuilt n shards fewer k (some, total, enough, consistent, part, left)))

pub rest_fills_to_same : (n : ℕ) (shards fewer : List (Option (List ℕ))) → 0 < n → length shards ≤ 256 → n ≤ held_count shards → IsConsistent n shards → IsPartOf fewer (filled n shards) → n ≤ held_count fewer → filled n fewer ≡ filled n shards
rest_fills_to_same n shards fewer some total enough consistent part left =
    sym (filled_by_places n fewer (filled n shards) (sym part.0) (λ k h. each k h (shard_at fewer k) refl))
  where
    each : (k : ℕ) → k < length fewer → (o : Option (List ℕ)) → shard_at fewer k ≡ o → shard_at (filled n shards) k ≡ Some (unwrap_or (shard_at fewer k) (rebuilt n fewer k))
    each k h None e =
        rest_gives_each n shards fewer k some total enough consistent part left (omega (arith, part.0, length-filled n shards, h))
        ∙ sym (ap (λ o. Some (unwrap_or o (rebuilt n fewer k))) e)
    each k h (Some bytes) e =
        shard_of_filled n shards k consistent (omega (arith, part.0, length-filled n shards, h))
        ∙ sym (held_in_rest n shards fewer k consistent part (ap is_some e))
        ∙ e
        ∙ sym (ap (λ o. Some (unwrap_or o (rebuilt n fewer k))) e)
