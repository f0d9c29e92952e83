-- `weight` and `weighted_sum`, one place at a time.
use Rattle.std.proofs.Common.{◌≡◌, ◌≢◌, ℕ, ◌+◌, ◌<◌, ◌≤◌, List, [], ◌∷◌, length, get_or, drop, map, bit_xor, refl, sym, ◌∙◌, ap, arith, Bool, true, false, cond, Bor}
use Rattle.std.specs.Prelude.{◌==◌}
use Rattle.std.specs.Prelude.{Option, Some, None, unwrap_or, is_some}
use Rattle.std.proofs.lemmas.Bool.{eqb-true, eq-eqb}
use Rattle.std.proofs.lemmas.List.{drop_more, drop_all, length-map, get_or-map}
use Rattle.gf256.specs.Field.{product}
use Rattle.gf256.proofs.Products.{product-below, product_assoc, product-zero_right, product-one_right}
use Rattle.gf256.proofs.Inverses.{inverse_of-zero}
use Rattle.std.specs.List.{range_with_len}
use Rattle.gf256.specs.Sums.{sum_at, sums_of}
use Rattle.gf256.specs.Rows.{contents}
use Rattle.gf256.proofs.Sums.{source_at}
use Rattle.rs_code.specs.Shards.{shard_at, size_of, bytes_of, AreEven}
use Rattle.rs_code.proofs.Places.{size_from_even}
use Rattle.rs_code.specs.ShardValue.{quotient, weight, weights, weighted_sum, value_at, byte_at, points_of, row_through}

pub quotient-zero : (a : ℕ) → quotient a 0 ≡ 0
quotient-zero a = ap (product a) inverse_of-zero ∙ product-zero_right a

pub weight_same : (z : ℕ) (zs : List ℕ) (x r : ℕ) → z ≡ x → weight (z ∷ zs) x r ≡ weight zs x r
weight_same z zs x r e = ap (λ t. cond t (weight zs x r) (product (quotient (bit_xor r z) (bit_xor x z)) (weight zs x r))) (eq-eqb z x e)

pub weight_other : (z : ℕ) (zs : List ℕ) (x r : ℕ) → z ≢ x → weight (z ∷ zs) x r ≡ product (quotient (bit_xor r z) (bit_xor x z)) (weight zs x r)
weight_other z zs x r ne = go (z == x) refl
  where
    go : (t : Bool) → (z == x) ≡ t → cond t (weight zs x r) (product (quotient (bit_xor r z) (bit_xor x z)) (weight zs x r)) ≡ product (quotient (bit_xor r z) (bit_xor x z)) (weight zs x r)
    go true e = absurd (ne (eqb-true z x e))
    go false e = refl

pub weight-below : (zs : List ℕ) (x r : ℕ) → weight zs x r < 256
weight-below [] x r = omega arith
weight-below (z ∷ zs) x r = go (z == x) (weight-below zs x r)
  where
    go : (t : Bool) → weight zs x r < 256 → cond t (weight zs x r) (product (quotient (bit_xor r z) (bit_xor x z)) (weight zs x r)) < 256
    go true h = h
    go false h = product-below (quotient (bit_xor r z) (bit_xor x z)) (weight zs x r)

-- ---- a loop over the places
pub weight_step_same : (places : List ℕ) (i x r p w : ℕ) → i < length places → get_or places i 0 ≡ x → product p (weight (drop i places) x r) ≡ w → product p (weight (drop (i + 1) places) x r) ≡ w
weight_step_same places i x r p w h e whole =
    ap (product p) (sym (ap (λ zs. weight zs x r) (drop_more places i 0 h) ∙ weight_same (get_or places i 0) (drop (i + 1) places) x r e)) ∙ whole

pub weight_step_other : (places : List ℕ) (i x r p w : ℕ) → i < length places → get_or places i 0 ≢ x → product p (weight (drop i places) x r) ≡ w → product (product p (quotient (bit_xor r (get_or places i 0)) (bit_xor x (get_or places i 0)))) (weight (drop (i + 1) places) x r) ≡ w
weight_step_other places i x r p w h ne whole =
    product_assoc p (quotient (bit_xor r (get_or places i 0)) (bit_xor x (get_or places i 0))) (weight (drop (i + 1) places) x r)
    ∙ ap (product p) (sym (ap (λ zs. weight zs x r) (drop_more places i 0 h) ∙ weight_other (get_or places i 0) (drop (i + 1) places) x r ne))
    ∙ whole

pub weight_end : (places : List ℕ) (i x r p w : ℕ) → length places ≤ i → p < 256 → product p (weight (drop i places) x r) ≡ w → p ≡ w
weight_end places i x r p w h byte whole =
    sym (product-one_right p byte) ∙ ap (λ zs. product p (weight zs x r)) (sym (drop_all i places h)) ∙ whole

-- ---- the sum of the products of weights and shards
pub sum_of_weights : (shards : List (Option (List ℕ))) (places xs : List ℕ) (r p : ℕ) → sum_at (map (λ x. weight places x r) xs) (bytes_of shards xs) p ≡ weighted_sum places (points_of shards p xs) r
unfolding sum_at
sum_of_weights shards places [] r p = refl
sum_of_weights shards places (x ∷ xs) r p = ap (bit_xor (product (weight places x r) (byte_at (shard_at shards x) p))) (sum_of_weights shards places xs r p)

pub places_of_points : (shards : List (Option (List ℕ))) (p : ℕ) (places : List ℕ) → map (λ (q : ℕ × ℕ). q.0) (points_of shards p places) ≡ places
places_of_points shards p [] = refl
places_of_points shards p (x ∷ xs) = ap (λ ys. x ∷ ys) (places_of_points shards p xs)

pub value_at_places : (shards : List (Option (List ℕ))) (p : ℕ) (places : List ℕ) (r : ℕ) → value_at (points_of shards p places) r ≡ weighted_sum places (points_of shards p places) r
unfolding value_at
value_at_places shards p places r = ap (λ zs. weighted_sum zs (points_of shards p places) r) (places_of_points shards p places)

same_map : (f g : ℕ → ℕ) → ((p : ℕ) → f p ≡ g p) → (ps : List ℕ) → map f ps ≡ map g ps
same_map f g same [] = refl
same_map f g same (p ∷ ps) = ap (λ y. y ∷ map f ps) (same p) ∙ ap (λ ys. g p ∷ ys) (same_map f g same ps)

pub row_by_weights : (shards : List (Option (List ℕ))) (places : List ℕ) (r : ℕ) → sums_of (weights places r) (bytes_of shards places) (unwrap_or (size_of shards) 0) ≡ row_through shards places r
row_by_weights shards places r =
    same_map (sum_at (weights places r) (bytes_of shards places)) (λ p. value_at (points_of shards p places) r)
    (λ p. sum_of_weights shards places places r p ∙ sym (value_at_places shards p places r))
    (range_with_len 0 (unwrap_or (size_of shards) 0))

-- ---- the held shards as sources
pub reach_of_held : (shards : List (Option (List ℕ))) (places : List ℕ) (sources : List (Bor (List ℕ))) → AreEven shards
    → ((i : ℕ) → i < length places → is_some (shard_at shards (get_or places i 0)) ≡ true) → contents sources ≡ bytes_of shards places
    → (k : ℕ) (d : Bor (List ℕ)) → k < length sources → unwrap_or (size_of shards) 0 ≤ length (get_or sources k d).now
reach_of_held shards places sources even held same k d lt =
    let one : length (contents sources) ≡ length sources = length-map sources (λ source. source.now) in
    let other : length (bytes_of shards places) ≡ length places = length-map places (λ x. unwrap_or (shard_at shards x) []) in
    let inside : k < length places = omega (arith, one, other, ap length same) in
    let here : (get_or sources k d).now ≡ unwrap_or (shard_at shards (get_or places k 0)) [] =
    sym (source_at sources k d lt) ∙ ap (λ s. get_or s k []) same ∙ get_or-map (λ x. unwrap_or (shard_at shards x) []) places k 0 [] inside in
    go (shard_at shards (get_or places k 0)) refl (held k inside) (get_or sources k d).now here
  where
    go : (shard : Option (List ℕ)) → shard_at shards (get_or places k 0) ≡ shard → is_some (shard_at shards (get_or places k 0)) ≡ true → (source : List ℕ)
        → source ≡ unwrap_or (shard_at shards (get_or places k 0)) [] → unwrap_or (size_of shards) 0 ≤ length source
    go None e some source at = let bad : is_some (shard_at [] 0) ≡ true = sym (ap is_some e) ∙ some in let impossible : ⊥ = cc in absurd impossible
    go (Some bytes) e some source at =
        let long : unwrap_or (size_of shards) 0 ≡ length bytes = ap (λ o. unwrap_or o 0) (size_from_even shards (get_or places k 0) bytes even e) in
        omega (arith, ap length (at ∙ ap (λ o. unwrap_or o []) e), long)

-- ---- rows of weights and their sums
pub rows_fit : (places indexes : List ℕ) (rows : List (List ℕ)) → rows ≡ map (weights places) indexes → (k : ℕ) (d : List ℕ) → k < length rows → length (get_or rows k d) ≡ length places
rows_fit places indexes rows e k d lt =
    let long : length (map (weights places) indexes) ≡ length indexes = length-map indexes (weights places) in
    ap (λ xs. length (get_or xs k d)) e
    ∙ ap length (get_or-map (weights places) indexes k 0 d (omega (arith, ap length e, long)))
    ∙ length-map places (λ x. weight places x (get_or indexes k 0))

sums_of_rows : (shards : List (Option (List ℕ))) (places indexes : List ℕ)
    → map (λ row. sums_of row (bytes_of shards places) (unwrap_or (size_of shards) 0)) (map (weights places) indexes) ≡ map (row_through shards places) indexes
sums_of_rows shards places [] = refl
sums_of_rows shards places (r ∷ indexes) =
    ap (λ y. y ∷ map (λ row. sums_of row (bytes_of shards places) (unwrap_or (size_of shards) 0)) (map (weights places) indexes)) (row_by_weights shards places r)
    ∙ ap (λ ys. row_through shards places r ∷ ys) (sums_of_rows shards places indexes)

pub outputs_are_rows : (shards : List (Option (List ℕ))) (places indexes : List ℕ) (rows outputs : List (List ℕ)) → rows ≡ map (weights places) indexes
    → outputs ≡ map (λ row. sums_of row (bytes_of shards places) (unwrap_or (size_of shards) 0)) rows → outputs ≡ map (row_through shards places) indexes
outputs_are_rows shards places indexes rows outputs e f =
    f ∙ ap (map (λ row. sums_of row (bytes_of shards places) (unwrap_or (size_of shards) 0))) e ∙ sums_of_rows shards places indexes
