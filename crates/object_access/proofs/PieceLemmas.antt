-- The blobs of an object.
use Rattle.std.proofs.Common.{◌≡◌, ℕ, ◌+◌, ◌-◌, ◌*◌, ◌<◌, ◌≤◌, min, List, [], length, map, take, drop, get_or, sym, ◌∙◌, ap, subst, lit≤, arith}
use Rattle.std.proofs.lemmas.List.{length-take, length-drop, length-map, get_or-map, take_all, take_rest, take_min}
use Rattle.std.proofs.lemmas.List.FromFn.{fill_by_all}
use Rattle.code_mode.specs.declared.stripe.TheConstants.{BLOB_LIMIT}
use Rattle.code_mode.proofs.Pieces.{length-first_chunks, concat-first_chunks, get_or-first_chunks}
use Rattle.volume_entry.specs.Manager.{IsBid}
use Rattle.object_access.specs.declared.pieces.TheConstants.{OBJECT_LIMIT}
use Rattle.object_access.specs.Pieces.{blob_count, blob_size, pieces_of, AreBids}
use Rattle.object_access.specs.RoundTrip.{PiecesAreTheObject}

pub length-pieces_of : (bytes : List ℕ) → length (pieces_of bytes) ≡ blob_count (length bytes)
length-pieces_of bytes = length-first_chunks BLOB_LIMIT (blob_count (length bytes)) bytes

pub get_or-pieces_of : (bytes : List ℕ) (place : ℕ) → place < blob_count (length bytes) → get_or (pieces_of bytes) place [] ≡ take BLOB_LIMIT (drop (place * BLOB_LIMIT) bytes)
get_or-pieces_of bytes place below = get_or-first_chunks BLOB_LIMIT (blob_count (length bytes)) bytes place below

-- as the code cuts it out
pub cut_out : (bytes : List ℕ) (place size : ℕ) → place < blob_count (length bytes) → size ≡ min BLOB_LIMIT (length (take (length bytes - place * BLOB_LIMIT) (drop (place * BLOB_LIMIT) bytes)))
    → take size (take (length bytes - place * BLOB_LIMIT) (drop (place * BLOB_LIMIT) bytes)) ≡ get_or (pieces_of bytes) place []
cut_out bytes place size below is =
    let start = place * BLOB_LIMIT in
    let all : take (length bytes - start) (drop start bytes) ≡ drop start bytes = take_rest bytes start in
    ap (λ n. take n (take (length bytes - start) (drop start bytes))) is
    ∙ ap (λ (rest : List ℕ). take (min BLOB_LIMIT (length rest)) rest) all
    ∙ take_min BLOB_LIMIT (drop start bytes)
    ∙ sym (get_or-pieces_of bytes place below)

-- each blob has a byte
pub starts_within : (size place : ℕ) → place < blob_count size → place * BLOB_LIMIT < size
starts_within size place below = omega arith

pub size_legal : (size place : ℕ) → place < blob_count size → (1 ≤ blob_size size place) × (blob_size size place ≤ BLOB_LIMIT)
size_legal size place below = let within = starts_within size place below in (omega arith, omega arith)

pub piece_long : (bytes : List ℕ) (place : ℕ) → place < blob_count (length bytes) → length (get_or (pieces_of bytes) place []) ≡ blob_size (length bytes) place
piece_long bytes place below =
    ap (λ (piece : List ℕ). length piece) (get_or-pieces_of bytes place below) ∙ length-take BLOB_LIMIT (drop (place * BLOB_LIMIT) bytes) ∙ ap (λ n. min BLOB_LIMIT n) (length-drop (place * BLOB_LIMIT) bytes)

pub piece_legal : (bytes piece : List ℕ) (place : ℕ) → place < blob_count (length bytes) → piece ≡ get_or (pieces_of bytes) place [] → (1 ≤ length piece) × (length piece ≤ BLOB_LIMIT)
piece_legal bytes piece place below is =
    let long : length piece ≡ blob_size (length bytes) place = ap (λ (piece : List ℕ). length piece) is ∙ piece_long bytes place below in
    let legal = size_legal (length bytes) place below in
    let some = legal.0 in
    let most = legal.1 in
    (omega arith, omega arith)

-- all of them have room for the object
all_hold : (size : ℕ) → size ≤ blob_count size * BLOB_LIMIT
all_hold size = omega arith

pub within : (bytes : List ℕ) (place : ℕ) → place < blob_count (length bytes) → place < length (pieces_of bytes)
within bytes place below = subst (λ n. place < n) (sym (length-pieces_of bytes)) below

pub pieces_are_the_object : (bytes : List ℕ) → PiecesAreTheObject bytes
pieces_are_the_object bytes = record {
  joined = concat-first_chunks BLOB_LIMIT (blob_count (length bytes)) bytes ∙ take_all (blob_count (length bytes) * BLOB_LIMIT) bytes (all_hold (length bytes));
  sizes = fill_by_all (blob_size (length bytes)) (map (λ (piece : List ℕ). length piece) (pieces_of bytes)) (blob_count (length bytes)) 0 (length-map (pieces_of bytes) (λ (piece : List ℕ). length piece) ∙ length-pieces_of bytes)
      (λ place below. get_or-map (λ (piece : List ℕ). length piece) (pieces_of bytes) place [] 0 (within bytes place below) ∙ piece_long bytes place below);
  legal = λ place below. size_legal (length bytes) place below;
}

-- each number of a blob is one
pub bid_at : (first count place : ℕ) → AreBids first count → place < count → IsBid (first + place)
bid_at first count place bids below =
    let least = bids.first.first in
    let most = bids.last.last in
    record { first = omega arith; last = omega arith }

-- .. from 1 on for every object
pub bids_from_one : (size : ℕ) → 1 ≤ size → size ≤ OBJECT_LIMIT → AreBids 1 (blob_count size)
bids_from_one size some most = record { first = record { first = omega arith; last = lit≤ tt }; last = record { first = omega arith; last = omega arith } }
