-- What is known of a byte string once its tests have passed.
use Rattle.std.specs.Prelude.{ℕ, ◌≡◌, ◌-◌, ◌^◌, ◌<◌, ◌≤◌, true, List, length, drop}
use Rattle.unit_id.specs.UnitName.{Name, IsName, packed}
use Rattle.shard_record.specs.Crc.{crc_of}
use Rattle.shard_record.specs.Spelling.{sum_in, kind_in, number_in, unit_in, blob_size_in, length_in, is_kind, is_size}

-- the parts that all kinds have, with what they say
pub record HasHead (bytes : List ℕ) (kind number : ℕ) (unit : Name) : Type 0 where
  pub inside : 21 ≤ length bytes
  pub sum : sum_in bytes ≡ crc_of (drop 4 bytes)
  pub kind_is : kind ≡ kind_in bytes
  pub number_is : number ≡ number_in bytes
  pub fits : number < 2 ^ 64
  pub name : IsName unit
  pub unit_is : packed unit ≡ unit_in bytes
  pub is_kind : is_kind kind ≡ true
  pub release : kind ≡ 5 → number ≡ 0

-- the sizes of a shard, with the blob's
pub record HasShard (bytes : List ℕ) (blob_size : ℕ) : Type 0 where
  pub inside : 29 ≤ length bytes
  pub blob_size_is : blob_size ≡ blob_size_in bytes
  pub blob : is_size blob_size ≡ true
  pub stated : length_in bytes ≡ length bytes - 29
  pub size : is_size (length bytes - 29) ≡ true
