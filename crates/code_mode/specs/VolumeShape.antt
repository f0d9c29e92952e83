-- The numbers of a volume: those of its mode, and how many disks it may use.
use Rattle.std.specs.Prelude.{ℕ, ◌≡◌, ◌+◌, ◌^◌, ◌<◌, ◌≤◌}
use Rattle.code_mode.specs.declared.mode.Mode.{Mode}
use Rattle.code_mode.specs.Mode.{data_count, total_count, put_quorum, sight}

-- data shards, units, acceptances that a put needs, units whose listings or marks are enough, and disks
pub record VolumeShape : Type 0 where
  pub data_count : ℕ
  pub total : ℕ
  pub quorum : ℕ
  pub sight : ℕ
  pub disks : ℕ

-- The numbers of a mode over so many disks.
abbrev pub volume_shape : Mode → ℕ → VolumeShape
volume_shape mode disks = record { data_count = data_count mode; total = total_count mode; quorum = put_quorum mode; sight = sight mode; disks = disks }

-- What all modes have in common. Any units that are enough to see, and any that are a quorum, share as many as there are data shards;
-- and more are enough to see than a quorum has beyond the data shards. A lock moves no more units than that.
pub record IsVolumeShape (shape : VolumeShape) : Type 0 where
  pub more : shape.data_count < shape.quorum
  pub within : shape.quorum ≤ shape.total
  pub twice : shape.quorum < shape.data_count + shape.data_count
  pub overlap : shape.sight + shape.quorum ≡ shape.total + shape.data_count
  pub seen : shape.data_count ≤ shape.sight
  pub beyond : shape.quorum < shape.sight + shape.data_count
  pub few_units : shape.total ≤ 27
  pub few_moves : shape.quorum ≤ shape.data_count + 9

-- a lease lasts this long
abbrev pub lease_length : ℕ
lease_length = 10

-- the clock stands still here
abbrev pub last_time : ℕ
last_time = 2 ^ 62

-- no epoch is greater
abbrev pub last_epoch : ℕ
last_epoch = 16777215
