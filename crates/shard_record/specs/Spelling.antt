-- A record of a chunk and its one spelling in bytes. Numbers stand with their highest byte first.
use Rattle.std.specs.Prelude.{ℕ, ◌≡◌, ◌-◌, ◌^◌, ◌%◌, ◌<◌, ◌≤◌, Bool, not, ◌&&◌, ◌==◌, nat_lt, nat_le, if◌then◌else◌, List, [], ◌∷◌, ◌++◌, length, take, drop, slice_index, All, ◌↔◌}
use Rattle.std.specs.Prelude.{Option, None, Some}
use Rattle.std.specs.Int.{Width, w32, w64, byte_len, to_be_bytes, from_be_bytes}
use Rattle.unit_id.specs.UnitName.{Name, IsName, packed}
use Rattle.shard_record.specs.Crc.{crc_of}
use Rattle.shard_record.specs.declared.record.ShardRecord.{ShardRecord}
use Rattle.shard_record.specs.declared.record.ShardRecord.TheVariants.{Shard, Mark, Free, Fence, Release}
use Rattle.shard_record.specs.declared.record.RecordFault.{RecordFault}
use Rattle.shard_record.specs.declared.record.RecordFault.TheVariants.{Short, BadSum, BadKind, BadUnit, BadNumber, ShortHead, BadSize, BadLength, Trailing}

-- the byte that tells the kinds apart
abbrev pub kind_of : ShardRecord → ℕ
kind_of (Shard bid unit blob_size bytes) = 1
kind_of (Mark bid unit) = 2
kind_of (Free bid unit) = 3
kind_of (Fence lock unit) = 4
kind_of (Release unit) = 5

-- the blob or the lock that it is about
abbrev pub number_of : ShardRecord → ℕ
number_of (Shard bid unit blob_size bytes) = bid
number_of (Mark bid unit) = bid
number_of (Free bid unit) = bid
number_of (Fence lock unit) = lock
number_of (Release unit) = 0

-- the unit that it is about
abbrev pub unit_of : ShardRecord → Name
unit_of (Shard bid unit blob_size bytes) = unit
unit_of (Mark bid unit) = unit
unit_of (Free bid unit) = unit
unit_of (Fence lock unit) = unit
unit_of (Release unit) = unit

-- the sizes and the bytes, which a shard alone has
abbrev pub shard_part : ShardRecord → List ℕ
shard_part (Shard bid unit blob_size bytes) =
    to_be_bytes w32 blob_size ++ (to_be_bytes w32 (length bytes) ++ bytes)
shard_part (Mark bid unit) = []
shard_part (Free bid unit) = []
shard_part (Fence lock unit) = []
shard_part (Release unit) = []

-- a blob and a shard have 1 to 4,194,304 bytes
abbrev pub is_size : ℕ → Bool
is_size n = nat_le 1 n && nat_le n 4194304

-- the kinds are 1 to 5
abbrev pub is_kind : ℕ → Bool
is_kind n = nat_le 1 n && nat_le n 5

-- what a record that can be written keeps
abbrev pub HasSizes : ShardRecord → Type 0
HasSizes (Shard bid unit blob_size bytes) =
    (1 ≤ blob_size) × (blob_size ≤ 4194304) × (1 ≤ length bytes) × (length bytes ≤ 4194304)
HasSizes (Mark bid unit) = Unit {0}
HasSizes (Free bid unit) = Unit {0}
HasSizes (Fence lock unit) = Unit {0}
HasSizes (Release unit) = Unit {0}

-- all of a spelling but the sum before it: kind, number, unit, and the shard's part
unfoldable pub summed_part : ShardRecord → List ℕ
summed_part item =
    kind_of item
    ∷ (to_be_bytes w64 (number_of item) ++ (to_be_bytes w64 (packed (unit_of item)) ++ shard_part item))

-- these bytes are the spelling of the record
pub record Spells (item : ShardRecord) (bytes : List ℕ) : Type 0 where
  pub sizes : HasSizes item
  pub number : number_of item < 2 ^ 64
  pub unit : IsName (unit_of item)
  pub rest : drop 4 bytes ≡ summed_part item
  pub sum : take 4 bytes ≡ to_be_bytes w32 (crc_of (summed_part item))

-- the number that stands from a place on
unfoldable pub number_at : Width → List ℕ → ℕ → ℕ
number_at width bytes place = from_be_bytes width (take (byte_len width) (drop place bytes))

-- the parts of any byte string that stand where a spelling has them
abbrev pub sum_in : List ℕ → ℕ
sum_in bytes = number_at w32 bytes 0

abbrev pub kind_in : List ℕ → ℕ
kind_in bytes = slice_index bytes 4

abbrev pub number_in : List ℕ → ℕ
number_in bytes = number_at w64 bytes 5

abbrev pub unit_in : List ℕ → ℕ
unit_in bytes = number_at w64 bytes 13

abbrev pub blob_size_in : List ℕ → ℕ
blob_size_in bytes = number_at w32 bytes 21

abbrev pub length_in : List ℕ → ℕ
length_in bytes = number_at w32 bytes 25

-- the tests of the parts that all kinds have, each with the fault where it fails
unfoldable pub head_tests : List ℕ → List (Bool × RecordFault)
head_tests bytes =
    (nat_lt (length bytes) 21, Short)
    ∷ (not (sum_in bytes == crc_of (drop 4 bytes)), BadSum (sum_in bytes) (crc_of (drop 4 bytes)))
    ∷ (not (is_kind (kind_in bytes)), BadKind (kind_in bytes))
    ∷ (unit_in bytes % 2 ^ 24 == 0, BadUnit)
    ∷ ((kind_in bytes == 5) && not (number_in bytes == 0), BadNumber (number_in bytes))
    ∷ []

-- the tests of a shard's part
unfoldable pub shard_tests : List ℕ → List (Bool × RecordFault)
shard_tests bytes =
    (nat_lt (length bytes) 29, ShortHead)
    ∷ (not (is_size (blob_size_in bytes)), BadSize (blob_size_in bytes))
    ∷ (not (is_size (length_in bytes)), BadSize (length_in bytes))
    ∷ (nat_lt (length bytes - 29) (length_in bytes), BadLength (length_in bytes) (length bytes - 29))
    ∷ (nat_lt (length_in bytes) (length bytes - 29), Trailing (length bytes - 29 - length_in bytes))
    ∷ []

-- the test of the other kinds
unfoldable pub end_tests : List ℕ → List (Bool × RecordFault)
end_tests bytes = (nat_lt 21 (length bytes), Trailing (length bytes - 21)) ∷ []

-- the fault of the first test that fails
abbrev pub first_failing : List (Bool × RecordFault) → Option RecordFault
first_failing [] = None
first_failing (test ∷ tests) = if test.0 then Some test.1 else first_failing tests

-- the first test that a byte string fails as a record, with its fields
unfoldable pub first_fault : List ℕ → Option RecordFault
first_fault bytes =
    first_failing
    (head_tests bytes ++ (if kind_in bytes == 1 then shard_tests bytes else end_tests bytes))

-- a byte string fails no test exactly where it is the spelling of a record
abbrev pub IsSpelledOrRefused : Type 0
IsSpelledOrRefused =
    (bytes : List ℕ) → All (λ byte. byte < 256) bytes →
    (first_fault bytes ≡ None) ↔ ((item : ShardRecord) × Spells item bytes)

-- a byte string is the spelling of one record at most
abbrev pub IsOneToOne : Type 0
IsOneToOne =
    (one other : ShardRecord) (bytes : List ℕ) → Spells one bytes → Spells other bytes → one ≡ other

-- no spelling begins another one
abbrev pub IsPrefixFree : Type 0
IsPrefixFree =
    (one other : ShardRecord) (bytes more : List ℕ) → Spells one bytes → Spells other (bytes ++ more) → more ≡ []
