-- A set of shards while pieces are put into it, one after the other.
use Rattle.std.proofs.Common.{◌≡◌, ℕ, zero, suc, ◌+◌, ◌-◌, ◌*◌, ◌<◌, ◌≤◌, List, [], ◌∷◌, ◌++◌, map, length, take, drop, get_or, set, replicate, refl, sym, ap, subst, ◌∙◌, arith, append_assoc, length-append, length-take}
use Rattle.std.specs.Prelude.{Option, Some, None, IfSome}
use Rattle.std.proofs.Math.Nat.{sub-zero}
use Rattle.std.proofs.Math.Seq.{take-length}
use Rattle.std.proofs.lemmas.List.{length-take-le, length-replicate, get_or-append_right, get_or-take, set_at, map_more}
use Rattle.rs_code.specs.Shards.{shard_at, size_of}
use Rattle.code_mode.specs.declared.mode.Mode.{Mode}
use Rattle.code_mode.specs.Mode.{data_count, total_count, shard_size}
use Rattle.code_mode.specs.Stripe.{pieces, data_shards, HoldsData}
use Rattle.code_mode.proofs.Joins.{data_held}
use Rattle.code_mode.proofs.Pieces.{length-pieces, length-piece, piece_is}

-- the first k rows as shards, in a set of a total
abbrev pub first_held : ℕ → List (List ℕ) → ℕ → List (Option (List ℕ))
first_held k rows total = map (λ row. Some row) (take k rows) ++ replicate (total - k) None

pub first_held-zero : (rows : List (List ℕ)) (total : ℕ) → replicate total None ≡ first_held 0 rows total
first_held-zero rows total = ap (λ (n : ℕ). replicate {A = Option (List ℕ)} n None) (sym (sub-zero total))

length-shards : (rows : List (List ℕ)) → length (map (λ row. Some row) rows) ≡ length rows
length-shards [] = refl
length-shards (row ∷ rows) = ap suc (length-shards rows)

length-front : (k : ℕ) (rows : List (List ℕ)) → k ≤ length rows → length (map (λ row. Some row) (take k rows)) ≡ k
length-front k rows within = length-shards (take k rows) ∙ length-take-le k rows within

pub length-first_held : (k : ℕ) (rows : List (List ℕ)) (total : ℕ) → k ≤ length rows → k ≤ total → length (first_held k rows total) ≡ total
length-first_held k rows total within small =
    omega (arith, length-append (map (λ (row : List ℕ). Some row) (take k rows)) (replicate (total - k) None), length-replicate {A = Option (List ℕ)} (total - k) None, length-front k rows within)

pub none_of_none : (n k : ℕ) → shard_at (replicate n None) k ≡ None
none_of_none zero k = refl
none_of_none (suc n) zero = refl
none_of_none (suc n) (suc k) = none_of_none n k

pub free-first_held : (k : ℕ) (rows : List (List ℕ)) (total : ℕ) → k ≤ length rows → shard_at (first_held k rows total) k ≡ None
free-first_held k rows total within =
    get_or-append_right (map (λ (row : List ℕ). Some row) (take k rows)) (replicate (total - k) None) k k None (length-front k rows within) (omega arith)
    ∙ none_of_none (total - k) (k - k)

pub more-first_held : (k : ℕ) (rows : List (List ℕ)) (total : ℕ) → k < length rows → k < total → set (first_held k rows total) k (Some (get_or rows k [])) ≡ first_held (k + 1) rows total
more-first_held k rows total within small =
    let front = map (λ (row : List ℕ). Some row) (take k rows) in
    let row = Some (get_or rows k []) in
    let free : List (Option (List ℕ)) = replicate (total - (k + 1)) None in
    ap (λ (n : ℕ). set (front ++ replicate n None) k row) {x = total - k} {y = suc (total - (k + 1))} (omega arith)
    ∙ set_at front None free row k (length-front k rows (omega arith))
    ∙ sym (append_assoc front (row ∷ []) free)
    ∙ ap (λ (held : List (Option (List ℕ))). held ++ free) (sym (map_more (λ (r : List ℕ). Some r) rows k [] within))

size_of_none : (n size : ℕ) → IfSome (size_of (replicate n None)) (λ found. found ≡ size)
size_of_none zero size = tt
size_of_none (suc n) size = size_of_none n size

size_of_rows : (rows : List (List ℕ)) (n size : ℕ) → ((i : ℕ) → i < length rows → length (get_or rows i []) ≡ size) → IfSome (size_of (map (λ row. Some row) rows ++ replicate n None)) (λ found. found ≡ size)
size_of_rows [] n size even = size_of_none n size
size_of_rows (row ∷ rows) n size even = even 0 (omega arith)

pub size-first_held : (k : ℕ) (rows : List (List ℕ)) (total size : ℕ) → ((i : ℕ) → i < length rows → length (get_or rows i []) ≡ size) → IfSome (size_of (first_held k rows total)) (λ found. found ≡ size)
size-first_held k rows total size even =
    size_of_rows (take k rows) (total - k) size
    (λ i below. ap length (get_or-take k rows i [] (omega (arith, length-take k rows))) ∙ even i (omega (arith, length-take k rows)))

-- ---- the steps of the loop that cuts, where `bytes` is the piece that was copied
pub copied_piece : (mode : Mode) (blob : List ℕ) (k size : ℕ) (bytes : List ℕ) → k < data_count mode → size ≡ shard_size mode (length blob) → bytes ≡ take size (drop (k * size) blob) ++ replicate (size - length (take size (drop (k * size) blob))) 0 → bytes ≡ get_or (pieces mode blob) k []
copied_piece mode blob k size bytes below long copied =
    copied ∙ ap (λ (s : ℕ). take s (drop (k * s) blob) ++ replicate (s - length (take s (drop (k * s) blob))) 0) long ∙ piece_is mode blob k below

pub cut_free : (mode : Mode) (blob : List ℕ) (k : ℕ) (shards : List (Option (List ℕ))) → k < data_count mode → shards ≡ first_held k (pieces mode blob) (total_count mode) → shard_at shards k ≡ None
cut_free mode blob k shards below so_far =
    ap (λ (s : List (Option (List ℕ))). shard_at s k) so_far ∙ free-first_held k (pieces mode blob) (total_count mode) (omega (arith, length-pieces mode blob))

pub cut_even : (mode : Mode) (blob : List ℕ) (k : ℕ) (shards : List (Option (List ℕ))) (bytes : List ℕ) → k < data_count mode → shards ≡ first_held k (pieces mode blob) (total_count mode) → bytes ≡ get_or (pieces mode blob) k [] → IfSome (size_of shards) (λ found. found ≡ length bytes)
cut_even mode blob k shards bytes below so_far piece =
    let long : length bytes ≡ shard_size mode (length blob) = ap length piece ∙ length-piece mode blob k below in
    subst (λ (s : List (Option (List ℕ))). IfSome (size_of s) (λ found. found ≡ length bytes)) (sym so_far)
    (size-first_held k (pieces mode blob) (total_count mode) (length bytes)
    (λ i within. length-piece mode blob i (omega (arith, length-pieces mode blob)) ∙ sym long))

pub cut_more : (mode : Mode) (blob : List ℕ) (k : ℕ) (shards after : List (Option (List ℕ))) (bytes : List ℕ) → k < data_count mode → shards ≡ first_held k (pieces mode blob) (total_count mode) → bytes ≡ get_or (pieces mode blob) k [] → after ≡ set shards k (Some bytes) → after ≡ first_held (k + 1) (pieces mode blob) (total_count mode)
cut_more mode blob k shards after bytes below so_far piece held =
    held
    ∙ ap (λ (s : List (Option (List ℕ))). set s k (Some bytes)) so_far
    ∙ ap (λ (b : List ℕ). set (first_held k (pieces mode blob) (total_count mode)) k (Some b)) piece
    ∙ more-first_held k (pieces mode blob) (total_count mode) (omega (arith, length-pieces mode blob)) (omega arith)

pub cut_all : (mode : Mode) (blob : List ℕ) (shards : List (Option (List ℕ))) → shards ≡ first_held (data_count mode) (pieces mode blob) (total_count mode) → shards ≡ data_shards mode blob
cut_all mode blob shards so_far =
    let front = λ (rows : List (List ℕ)). map (λ (row : List ℕ). Some row) rows in
    so_far
    ∙ ap (λ (n : ℕ). front (take n (pieces mode blob)) ++ replicate (total_count mode - data_count mode) None) (sym (length-pieces mode blob))
    ∙ ap (λ (rows : List (List ℕ)). front rows ++ replicate (total_count mode - data_count mode) None) (take-length (pieces mode blob))
    ∙ ap (λ (n : ℕ). front (pieces mode blob) ++ replicate {A = Option (List ℕ)} n None) (omega arith)

pub cut_holds : (mode : Mode) (blob : List ℕ) (shards : List (Option (List ℕ))) → shards ≡ data_shards mode blob → HoldsData mode (length blob) shards
cut_holds mode blob shards whole = subst (HoldsData mode (length blob)) (sym whole) (data_held mode blob)
