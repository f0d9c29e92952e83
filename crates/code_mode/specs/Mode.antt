-- The numbers of the code modes, and the size of a shard.
use Rattle.std.specs.Prelude.{◌≡◌, ℕ, ◌+◌, ◌-◌, ◌*◌, ◌<◌, ◌≤◌, List, codes, max}
use Rattle.std.specs.Int.{div_ceil}
use Rattle.code_mode.specs.declared.mode.Mode.{Mode}
use Rattle.code_mode.specs.declared.mode.Mode.TheVariants.{Ec3P3, Ec6P3, Ec6P6, Ec10P4, Ec12P4, Ec12P9, Ec16P4, Ec15P12}

-- how a mode is written in a script
abbrev pub mode_name : Mode → List ℕ
mode_name Ec3P3 = codes "EC3P3"
mode_name Ec6P3 = codes "EC6P3"
mode_name Ec6P6 = codes "EC6P6"
mode_name Ec10P4 = codes "EC10P4"
mode_name Ec12P4 = codes "EC12P4"
mode_name Ec12P9 = codes "EC12P9"
mode_name Ec16P4 = codes "EC16P4"
mode_name Ec15P12 = codes "EC15P12"

-- how many data shards a blob has, and how many of its shards suffice to read it
abbrev pub data_count : Mode → ℕ
data_count Ec3P3 = 3
data_count Ec6P3 = 6
data_count Ec6P6 = 6
data_count Ec10P4 = 10
data_count Ec12P4 = 12
data_count Ec12P9 = 12
data_count Ec16P4 = 16
data_count Ec15P12 = 15

-- how many parity shards a blob has
abbrev pub parity_count : Mode → ℕ
parity_count Ec3P3 = 3
parity_count Ec6P3 = 3
parity_count Ec6P6 = 6
parity_count Ec10P4 = 4
parity_count Ec12P4 = 4
parity_count Ec12P9 = 9
parity_count Ec16P4 = 4
parity_count Ec15P12 = 12

-- how many shards a blob has, and how many units a volume
abbrev pub total_count : Mode → ℕ
total_count mode = data_count mode + parity_count mode

-- how many units must have accepted a put before it is acknowledged
abbrev pub put_quorum : Mode → ℕ
put_quorum Ec3P3 = 5
put_quorum Ec6P3 = 8
put_quorum Ec6P6 = 11
put_quorum Ec10P4 = 13
put_quorum Ec12P4 = 15
put_quorum Ec12P9 = 20
put_quorum Ec16P4 = 19
put_quorum Ec15P12 = 24

-- how many units' listings or marks suffice to know of a blob
abbrev pub sight : Mode → ℕ
sight Ec3P3 = 4
sight Ec6P3 = 7
sight Ec6P6 = 7
sight Ec10P4 = 11
sight Ec12P4 = 13
sight Ec12P9 = 13
sight Ec16P4 = 17
sight Ec15P12 = 18

-- what the numbers of each mode have in common
pub record HasSoundNumbers (mode : Mode) : Type 0 where
  pub some_data : 0 < data_count mode
  pub few_shards : total_count mode ≤ 27
  pub data_below_quorum : data_count mode < put_quorum mode
  pub quorum_within_total : put_quorum mode ≤ total_count mode
  pub quorum_below_double : put_quorum mode < 2 * data_count mode
  pub sight_is : sight mode ≡ total_count mode - (put_quorum mode - data_count mode)
  pub data_within_sight : data_count mode ≤ sight mode
  pub slack_below_sight : put_quorum mode - data_count mode < sight mode

-- no shard is shorter
abbrev pub least_shard : ℕ
least_shard = 2048

-- the length of each shard of a blob of `size` bytes
abbrev pub shard_size : Mode → ℕ → ℕ
shard_size mode size = max least_shard (div_ceil size (data_count mode))
