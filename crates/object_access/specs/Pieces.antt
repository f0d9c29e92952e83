-- How an object is cut into blobs.
use Rattle.std.specs.Prelude.{ℕ, ◌+◌, ◌-◌, ◌*◌, min, List, length, map}
use Rattle.std.specs.Int.{div_ceil}
use Rattle.std.specs.List.{range_with_len}
use Rattle.std.specs.Simd.{first_chunks}
use Rattle.code_mode.specs.declared.stripe.TheConstants.{BLOB_LIMIT}
use Rattle.volume_entry.specs.Manager.{IsBid}

-- how many blobs an object of so many bytes has
abbrev pub blob_count : ℕ → ℕ
blob_count size = div_ceil size BLOB_LIMIT

-- how many bytes the blob at a place has: each before the last one has as many as a blob may have
abbrev pub blob_size : ℕ → ℕ → ℕ
blob_size size place = min BLOB_LIMIT (size - place * BLOB_LIMIT)

-- the sizes of all blobs, in order
abbrev pub blob_sizes : ℕ → List ℕ
blob_sizes size = map (blob_size size) (range_with_len 0 (blob_count size))

-- the blobs of an object: its bytes, cut in order
abbrev pub pieces_of : List ℕ → List (List ℕ)
pieces_of bytes = first_chunks BLOB_LIMIT (blob_count (length bytes)) bytes

-- so many numbers from the first one on are numbers of blobs
pub record AreBids (number count : ℕ) : Type 0 where
  pub first : IsBid number
  pub last : IsBid (number + count - 1)
