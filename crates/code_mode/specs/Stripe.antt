-- The shards of a blob.
use Rattle.std.specs.Prelude.{◌≡◌, ℕ, ◌-◌, ◌*◌, ◌<◌, ◌≤◌, List, [], ◌++◌, length, map, take, replicate, get_or, Option, Some, None, unwrap_or, IfSome, IsSomeAnd}
use Rattle.std.specs.List.{concat, enumerate_from, range_with_len}
use Rattle.std.specs.Simd.{first_chunks}
use Rattle.rs_code.specs.Shards.{shard_at, held_count}
use Rattle.rs_code.specs.ShardValue.{value_at}
use Rattle.code_mode.specs.declared.mode.Mode.{Mode}
use Rattle.code_mode.specs.Mode.{data_count, parity_count, total_count, shard_size}

-- the blob, and zero bytes up to the length of all its data shards
abbrev pub padded : Mode → List ℕ → List ℕ
padded mode blob = blob ++ replicate (data_count mode * shard_size mode (length blob) - length blob) 0

-- its data shards: the padded blob, cut in order into pieces of the shard size
abbrev pub pieces : Mode → List ℕ → List (List ℕ)
pieces mode blob = first_chunks (shard_size mode (length blob)) (data_count mode) (padded mode blob)

-- the bytes of the pieces at a position, each with the index of its piece
abbrev pub column : List (List ℕ) → ℕ → List (ℕ × ℕ)
column rows position = enumerate_from 0 (map (λ row. get_or row position 0) rows)

-- shard r: at each position the code's value at r of the pieces there
abbrev pub shard_of : Mode → List ℕ → ℕ → List ℕ
shard_of mode blob r = map (λ position. value_at (column (pieces mode blob) position) r) (range_with_len 0 (shard_size mode (length blob)))

-- the set that holds all shards of a blob
abbrev pub all_shards : Mode → List ℕ → List (Option (List ℕ))
all_shards mode blob = map (λ r. Some (shard_of mode blob r)) (range_with_len 0 (total_count mode))

-- the set that holds the data shards alone
abbrev pub data_shards : Mode → List ℕ → List (Option (List ℕ))
data_shards mode blob = map (λ piece. Some piece) (pieces mode blob) ++ replicate (parity_count mode) None

-- a set holds every data shard of a blob of `size` bytes
abbrev pub HoldsData : Mode → ℕ → List (Option (List ℕ)) → Type 0
HoldsData mode size shards = (k : ℕ) → k < data_count mode → IsSomeAnd (shard_at shards k) (λ bytes. length bytes ≡ shard_size mode size)

-- the bytes of the first n shards, one after the other
abbrev pub joined : ℕ → List (Option (List ℕ)) → List ℕ
joined n shards = concat (map (λ shard. unwrap_or shard []) (take n shards))

-- the shards that a set of the mode's total holds are the blob's, and enough to read it
pub record HoldsEnough (mode : Mode) (blob : List ℕ) (shards : List (Option (List ℕ))) : Type 0 where
  pub total : length shards ≡ total_count mode
  pub own : (k : ℕ) → IfSome (shard_at shards k) (λ bytes. bytes ≡ shard_of mode blob k)
  pub enough : data_count mode ≤ held_count shards

-- a set holds the blob's own data shards
abbrev pub HoldsOwnData : Mode → List ℕ → List (Option (List ℕ)) → Type 0
HoldsOwnData mode blob shards = (k : ℕ) → k < data_count mode → shard_at shards k ≡ Some (shard_of mode blob k)
