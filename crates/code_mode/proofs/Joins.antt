-- Shards that are joined one after the other, up to a length.
use Rattle.std.proofs.Common.{◌≡◌, ℕ, zero, suc, ◌+◌, ◌-◌, ◌*◌, ◌<◌, min, List, [], ◌∷◌, ◌++◌, map, length, take, get_or, refl, sym, ap, subst, ◌∙◌, arith, append-nil, add-one, length-append, length-take}
use Rattle.std.specs.Prelude.{Option, Some, None, unwrap_or, IsSomeAnd}
use Rattle.std.specs.List.{concat}
use Rattle.std.proofs.Math.Nat.{sub-zero, zero-mul, suc-mul}
use Rattle.std.proofs.Math.Seq.{take-nil}
use Rattle.std.proofs.lemmas.List.{map_more, take_min}
use Rattle.std.proofs.lemmas.List.Folds.{concat-append}
use Rattle.rs_code.specs.Shards.{shard_at}
use Rattle.code_mode.specs.declared.mode.Mode.{Mode}
use Rattle.code_mode.specs.Mode.{data_count, shard_size}
use Rattle.code_mode.specs.Stripe.{pieces, data_shards, joined, HoldsData}
use Rattle.code_mode.proofs.Pieces.{shards_hold, length-pieces, length-piece, blob_back}

-- what is taken of two lists: of the first, and where that is too short of the second
pub take-append_more : (size : ℕ) (xs ys : List ℕ) → take size (xs ++ ys) ≡ take size xs ++ take (size - length (take size xs)) ys
take-append_more size [] ys =
    ap (λ (k : ℕ). take k ys) (sym (sub-zero size)) ∙ ap (λ (front : List ℕ). front ++ take (size - length front) ys) (sym (take-nil size))
take-append_more zero (x ∷ xs) ys = refl
take-append_more (suc size) (x ∷ xs) ys =
    ap (λ (rest : List ℕ). x ∷ rest) (take-append_more size xs ys ∙ ap (λ (k : ℕ). take size xs ++ take k ys) (omega arith))

-- a held index is below the total
pub below_total : (shards : List (Option (List ℕ))) (k : ℕ) (bytes : List ℕ) → shard_at shards k ≡ Some bytes → k < length shards
below_total [] k bytes held = cc
below_total (s ∷ shards) zero bytes held = omega arith
below_total (s ∷ shards) (suc k) bytes held = let rest = below_total shards k bytes held in omega arith

-- one shard more
pub joined-more : (shards : List (Option (List ℕ))) (k : ℕ) (bytes : List ℕ) → shard_at shards k ≡ Some bytes → joined (k + 1) shards ≡ joined k shards ++ bytes
joined-more shards k bytes held =
    let bytes_of : Option (List ℕ) → List ℕ = λ shard. unwrap_or shard [] in
    ap concat (map_more bytes_of shards k None (below_total shards k bytes held))
    ∙ concat-append (map bytes_of (take k shards)) (bytes_of (shard_at shards k) ∷ [])
    ∙ ap (λ (last : List ℕ). joined k shards ++ last) (append-nil (bytes_of (shard_at shards k)))
    ∙ ap (λ (shard : Option (List ℕ)). joined k shards ++ bytes_of shard) held

-- the step of the loop that joins
pub join_more : (size k : ℕ) (shards : List (Option (List ℕ))) (bytes after piece : List ℕ) → shard_at shards k ≡ Some piece → bytes ≡ take size (joined k shards) → after ≡ bytes ++ take (min (size - length bytes) (length piece)) piece → after ≡ take size (joined (k + 1) shards)
join_more size k shards bytes after piece held so_far added =
    added
    ∙ ap (λ (part : List ℕ). bytes ++ part) (take_min (size - length bytes) piece)
    ∙ ap (λ (front : List ℕ). front ++ take (size - length front) piece) so_far
    ∙ sym (take-append_more size (joined k shards) piece)
    ∙ ap (take size) (sym (joined-more shards k piece held))

is_held : (shard : Option (List ℕ)) (size : ℕ) → IsSomeAnd shard (λ bytes. length bytes ≡ size) → (bytes : List ℕ) × (shard ≡ Some bytes) × (length bytes ≡ size)
is_held None size h = absurd h
is_held (Some bytes) size h = (bytes, refl, h)

pub length-joined : (size n : ℕ) (shards : List (Option (List ℕ))) → ((k : ℕ) → k < n → IsSomeAnd (shard_at shards k) (λ bytes. length bytes ≡ size)) → length (joined n shards) ≡ n * size
length-joined size zero shards held = sym (zero-mul size)
length-joined size (suc n) shards held =
    let before = length-joined size n shards (λ k below. held k (omega arith)) in
    let last = is_held (shard_at shards n) size (held n (omega arith)) in
    ap (λ (k : ℕ). length (joined k shards)) (sym (add-one n))
    ∙ ap length (joined-more shards n last.0 last.1)
    ∙ omega (arith, length-append (joined n shards) last.0, before, last.2, suc-mul n size)

-- so data shards have room for the blob that was cut
pub data_reach : (mode : Mode) (size : ℕ) (shards : List (Option (List ℕ))) → HoldsData mode size shards → length (take size (joined (data_count mode) shards)) ≡ size
data_reach mode size shards held =
    omega (arith, length-take size (joined (data_count mode) shards), length-joined (shard_size mode size) (data_count mode) shards held, shards_hold mode size)

-- ---- the set that was cut
shard_of_piece : (rows : List (List ℕ)) (free : List (Option (List ℕ))) (k : ℕ) → k < length rows → shard_at (map (λ row. Some row) rows ++ free) k ≡ Some (get_or rows k [])
shard_of_piece [] free k below = absurd (omega arith)
shard_of_piece (row ∷ rows) free zero below = refl
shard_of_piece (row ∷ rows) free (suc k) below = shard_of_piece rows free k (omega arith)

pub piece_at : (mode : Mode) (blob : List ℕ) (k : ℕ) → k < data_count mode → shard_at (data_shards mode blob) k ≡ Some (get_or (pieces mode blob) k [])
piece_at mode blob k below = shard_of_piece (pieces mode blob) _ k (omega (arith, length-pieces mode blob))

pub data_held : (mode : Mode) (blob : List ℕ) → HoldsData mode (length blob) (data_shards mode blob)
data_held mode blob k below =
    subst (λ (shard : Option (List ℕ)). IsSomeAnd shard (λ bytes. length bytes ≡ shard_size mode (length blob))) (sym (piece_at mode blob k below))
    (length-piece mode blob k below)

joined_rows : (rows : List (List ℕ)) (free : List (Option (List ℕ))) → joined (length rows) (map (λ row. Some row) rows ++ free) ≡ concat rows
joined_rows [] free = refl
joined_rows (row ∷ rows) free = ap (λ (rest : List ℕ). row ++ rest) (joined_rows rows free)

pub joined_data : (mode : Mode) (blob : List ℕ) → joined (data_count mode) (data_shards mode blob) ≡ concat (pieces mode blob)
joined_data mode blob =
    ap (λ (n : ℕ). joined n (data_shards mode blob)) (sym (length-pieces mode blob)) ∙ joined_rows (pieces mode blob) _

pub blob_joined : (mode : Mode) (blob : List ℕ) → take (length blob) (joined (data_count mode) (data_shards mode blob)) ≡ blob
blob_joined mode blob = ap (take (length blob)) (joined_data mode blob) ∙ blob_back mode blob
