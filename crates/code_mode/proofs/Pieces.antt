-- Lists that are cut into pieces of one length, and padded with zero bytes.
use Rattle.std.proofs.Common.{◌≡◌, ℕ, zero, suc, ◌+◌, ◌-◌, ◌*◌, ◌<◌, ◌≤◌, List, [], ◌∷◌, ◌++◌, length, take, drop, replicate, get_or, refl, sym, ap, ◌∙◌, arith, length-append, length-drop, length-take-le, drop-drop}
use Rattle.std.specs.List.{concat}
use Rattle.std.specs.Simd.{first_chunks}
use Rattle.std.proofs.Math.Seq.{take-add, take-append_seam, take-length, take-nil, drop-nil}
use Rattle.std.proofs.Math.Nat.{zero-mul, sub-zero, suc-mul, mul-le-mul_right}
use Rattle.std.proofs.lemmas.List.{drop-replicate, take-replicate, length-replicate}
use Rattle.std.proofs.lemmas.Grind.{div_ceil_times}
use Rattle.code_mode.specs.declared.mode.Mode.{Mode}
use Rattle.code_mode.specs.Mode.{data_count, shard_size}
use Rattle.code_mode.proofs.Numbers.{sound_numbers}
use Rattle.code_mode.specs.Stripe.{padded, pieces}

pub length-first_chunks : (size n : ℕ) (bytes : List ℕ) → length (first_chunks size n bytes) ≡ n
length-first_chunks size zero bytes = refl
length-first_chunks size (suc n) bytes = ap suc (length-first_chunks size n (drop size bytes))

-- the pieces one after the other
pub concat-first_chunks : (size n : ℕ) (bytes : List ℕ) → concat (first_chunks size n bytes) ≡ take (n * size) bytes
concat-first_chunks size zero bytes = sym (ap (λ (k : ℕ). take k bytes) (zero-mul size))
concat-first_chunks size (suc n) bytes =
    ap (λ (rest : List ℕ). take size bytes ++ rest) (concat-first_chunks size n (drop size bytes)) ∙ sym (take-add size (n * size) bytes) ∙ ap (λ (k : ℕ). take k bytes) (omega arith)

-- one of them
pub get_or-first_chunks : (size n : ℕ) (bytes : List ℕ) (i : ℕ) → i < n → get_or (first_chunks size n bytes) i [] ≡ take size (drop (i * size) bytes)
get_or-first_chunks size zero bytes i h = absurd (omega arith)
get_or-first_chunks size (suc n) bytes zero h = sym (ap (λ (k : ℕ). take size (drop k bytes)) (zero-mul size))
get_or-first_chunks size (suc n) bytes (suc i) h =
    get_or-first_chunks size n (drop size bytes) i (omega arith)
    ∙ ap (take size) (drop-drop (i * size) size bytes)
    ∙ ap (λ (k : ℕ). take size (drop k bytes)) (omega arith)

-- the data shards have room for the blob
pub shards_hold : (mode : Mode) (size : ℕ) → size ≤ data_count mode * shard_size mode size
shards_hold mode size = grind (arith, div_ceil_times size (data_count mode) (sound_numbers mode).some_data)

pub length-padded : (mode : Mode) (blob : List ℕ) → length (padded mode blob) ≡ data_count mode * shard_size mode (length blob)
length-padded mode blob =
    omega (arith, length-append {A = ℕ}, length-replicate {A = ℕ}, shards_hold mode (length blob))

pub joined_pieces : (mode : Mode) (blob : List ℕ) → concat (pieces mode blob) ≡ padded mode blob
joined_pieces mode blob =
    concat-first_chunks (shard_size mode (length blob)) (data_count mode) (padded mode blob)
    ∙ ap (λ (k : ℕ). take k (padded mode blob)) (sym (length-padded mode blob))
    ∙ take-length (padded mode blob)

pub blob_back : (mode : Mode) (blob : List ℕ) → take (length blob) (concat (pieces mode blob)) ≡ blob
blob_back mode blob = ap (take (length blob)) (joined_pieces mode blob) ∙ take-append_seam blob _

-- zero bytes after a list, seen from a place on
pub drop-padded : (start pad : ℕ) (bytes : List ℕ) → drop start (bytes ++ replicate pad 0) ≡ drop start bytes ++ replicate (pad - (start - length bytes)) 0
drop-padded start pad [] =
    drop-replicate start pad 0
    ∙ ap (λ (k : ℕ). replicate (pad - k) 0) (sym (sub-zero start))
    ∙ ap (λ (front : List ℕ). front ++ replicate (pad - (start - 0)) 0) (sym (drop-nil start))
drop-padded zero pad (b ∷ bytes) = ap (λ (k : ℕ). b ∷ (bytes ++ replicate k 0)) (omega arith)
drop-padded (suc start) pad (b ∷ bytes) =
    drop-padded start pad bytes ∙ ap (λ (k : ℕ). drop start bytes ++ replicate k 0) (omega arith)

-- and cut off behind a place
pub take-padded : (size pad : ℕ) (bytes : List ℕ) → size ≤ length bytes + pad → take size (bytes ++ replicate pad 0) ≡ take size bytes ++ replicate (size - length (take size bytes)) 0
take-padded size pad [] h =
    take-replicate size pad 0 (omega arith)
    ∙ ap (λ (k : ℕ). replicate k 0) (sym (sub-zero size))
    ∙ ap (λ (front : List ℕ). front ++ replicate (size - length front) 0) (sym (take-nil size))
take-padded zero pad (b ∷ bytes) h = refl
take-padded (suc size) pad (b ∷ bytes) h =
    ap (λ (rest : List ℕ). b ∷ rest) (take-padded size pad bytes (omega arith) ∙ ap (λ (k : ℕ). take size bytes ++ replicate k 0) (omega arith))

-- so a part of padded bytes is a part of the bytes, padded
pub part-padded : (start size pad : ℕ) (bytes : List ℕ) → start + size ≤ length bytes + pad → take size (drop start (bytes ++ replicate pad 0)) ≡ take size (drop start bytes) ++ replicate (size - length (take size (drop start bytes))) 0
part-padded start size pad bytes h =
    ap (take size) (drop-padded start pad bytes) ∙ take-padded size (pad - (start - length bytes)) (drop start bytes) (omega (arith, length-drop {A = ℕ}))

-- the pieces of a blob
pub length-pieces : (mode : Mode) (blob : List ℕ) → length (pieces mode blob) ≡ data_count mode
length-pieces mode blob = length-first_chunks (shard_size mode (length blob)) (data_count mode) (padded mode blob)

-- the place of a piece ends where the padded blob does, or before
pub piece_within : (n k size : ℕ) → k < n → k * size + size ≤ n * size
piece_within n k size below = let more : suc k * size ≤ n * size = mul-le-mul_right size (omega arith) in omega (arith, suc-mul k size)

pub length-piece : (mode : Mode) (blob : List ℕ) (k : ℕ) → k < data_count mode → length (get_or (pieces mode blob) k []) ≡ shard_size mode (length blob)
length-piece mode blob k below =
    let size = shard_size mode (length blob) in
    let within = piece_within (data_count mode) k size below in
    ap length (get_or-first_chunks size (data_count mode) (padded mode blob) k below)
    ∙ length-take-le size (drop (k * size) (padded mode blob)) (omega (arith, length-drop (k * size) (padded mode blob), length-padded mode blob))

pub piece_is : (mode : Mode) (blob : List ℕ) (k : ℕ) → k < data_count mode → let size = shard_size mode (length blob) in let part = take size (drop (k * size) blob) in part ++ replicate (size - length part) 0 ≡ get_or (pieces mode blob) k []
piece_is mode blob k below =
    let size = shard_size mode (length blob) in
    let within = piece_within (data_count mode) k size below in
    let end : k * size + size ≤ length blob + (data_count mode * size - length blob) = omega arith in
    sym (part-padded (k * size) size (data_count mode * size - length blob) blob end)
    ∙ sym (get_or-first_chunks size (data_count mode) (padded mode blob) k below)
