-- A set of shards is a list with a place for each index below its total. A place has the shard's bytes,
-- or None where the shard isn't held.
use Rattle.std.specs.Prelude.{◌≡◌, ℕ, ◌+◌, ◌-◌, List, [], ◌∷◌, ◌++◌, length, get_or, map, replicate, is_some, count_by, Option, Some, None, IfSome, unwrap_or, if◌then◌else◌, All, ◌⊎◌, ◌<◌}

-- the shard of index k
abbrev pub shard_at : List (Option (List ℕ)) → ℕ → Option (List ℕ)
shard_at shards k = get_or shards k None

-- how many are held
abbrev pub held_count : List (Option (List ℕ)) → ℕ
held_count shards = count_by is_some shards

-- the indexes that are held, ascending, where the first place has index k
abbrev pub held_from : ℕ → List (Option (List ℕ)) → List ℕ
held_from k [] = []
held_from k (None ∷ shards) = held_from (k + 1) shards
held_from k (Some _ ∷ shards) = k ∷ held_from (k + 1) shards

-- the indexes that are held, ascending
abbrev pub held : List (Option (List ℕ)) → List ℕ
held shards = held_from 0 shards

-- the indexes that aren't held, ascending, where the first place has index k
abbrev pub missing_from : ℕ → List (Option (List ℕ)) → List ℕ
missing_from k [] = []
missing_from k (None ∷ shards) = k ∷ missing_from (k + 1) shards
missing_from k (Some _ ∷ shards) = missing_from (k + 1) shards

-- the indexes that aren't held, ascending
abbrev pub missing : List (Option (List ℕ)) → List ℕ
missing shards = missing_from 0 shards

-- the bytes of the shards of some indexes
abbrev pub bytes_of : List (Option (List ℕ)) → List ℕ → List (List ℕ)
bytes_of shards indexes = map (λ x. unwrap_or (shard_at shards x) []) indexes

-- a row where index k isn't held
abbrev pub spread_at : List (Option (List ℕ)) → (ℕ → List ℕ) → ℕ → Option (List ℕ)
spread_at shards row_of k = if is_some (shard_at shards k) then None else Some (row_of k)

-- how long the first held shard is
abbrev pub size_of : List (Option (List ℕ)) → Option ℕ
size_of [] = None
size_of (None ∷ shards) = size_of shards
size_of (Some bytes ∷ shards) = Some (length bytes)

-- all held shards are as long as the first
abbrev pub AreEven : List (Option (List ℕ)) → Type 0
AreEven shards = (k : ℕ) → IfSome (shard_at shards k) (λ bytes. size_of shards ≡ Some (length bytes))

-- the shards are strings of bytes
abbrev pub AreByteStrings : List (Option (List ℕ)) → Type 0
AreByteStrings shards = (k : ℕ) → IfSome (shard_at shards k) (All (λ b. b < 256))

-- `fewer` are these shards but for some that aren't held
abbrev pub IsPartOf : List (Option (List ℕ)) → List (Option (List ℕ)) → Type 0
IsPartOf fewer shards = (length fewer ≡ length shards) × ((k : ℕ) → (shard_at fewer k ≡ None) ⊎ (shard_at fewer k ≡ shard_at shards k))

-- the shard of index k that is held, or else the one of some more rows
abbrev pub completed_at : List (Option (List ℕ)) → List (Option (List ℕ)) → ℕ → Option (List ℕ)
completed_at shards rows k = if is_some (shard_at shards k) then shard_at shards k else shard_at rows k

-- rows as the first of `total` places
abbrev pub padded : ℕ → List (Option (List ℕ)) → List (Option (List ℕ))
padded total rows = rows ++ replicate (total - length rows) None
