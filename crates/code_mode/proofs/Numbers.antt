-- The numbers of the modes, row by row.
use Rattle.std.proofs.Common.{ℕ, refl, lit<, lit≤}
use Rattle.code_mode.specs.declared.mode.Mode.{Mode}
use Rattle.code_mode.specs.declared.mode.Mode.TheVariants.{Ec3P3, Ec6P3, Ec6P6, Ec10P4, Ec12P4, Ec12P9, Ec16P4, Ec15P12}
use Rattle.code_mode.specs.Mode.{HasSoundNumbers}
use Rattle.code_mode.specs.VolumeShape.{IsVolumeShape, volume_shape}

pub sound_numbers : (mode : Mode) → HasSoundNumbers mode
sound_numbers Ec3P3 = record { some_data = lit< tt; few_shards = lit≤ tt; data_below_quorum = lit< tt; quorum_within_total = lit≤ tt; quorum_below_double = lit< tt; sight_is = refl; data_within_sight = lit≤ tt; slack_below_sight = lit< tt }
sound_numbers Ec6P3 = record { some_data = lit< tt; few_shards = lit≤ tt; data_below_quorum = lit< tt; quorum_within_total = lit≤ tt; quorum_below_double = lit< tt; sight_is = refl; data_within_sight = lit≤ tt; slack_below_sight = lit< tt }
sound_numbers Ec6P6 = record { some_data = lit< tt; few_shards = lit≤ tt; data_below_quorum = lit< tt; quorum_within_total = lit≤ tt; quorum_below_double = lit< tt; sight_is = refl; data_within_sight = lit≤ tt; slack_below_sight = lit< tt }
sound_numbers Ec10P4 = record { some_data = lit< tt; few_shards = lit≤ tt; data_below_quorum = lit< tt; quorum_within_total = lit≤ tt; quorum_below_double = lit< tt; sight_is = refl; data_within_sight = lit≤ tt; slack_below_sight = lit< tt }
sound_numbers Ec12P4 = record { some_data = lit< tt; few_shards = lit≤ tt; data_below_quorum = lit< tt; quorum_within_total = lit≤ tt; quorum_below_double = lit< tt; sight_is = refl; data_within_sight = lit≤ tt; slack_below_sight = lit< tt }
sound_numbers Ec12P9 = record { some_data = lit< tt; few_shards = lit≤ tt; data_below_quorum = lit< tt; quorum_within_total = lit≤ tt; quorum_below_double = lit< tt; sight_is = refl; data_within_sight = lit≤ tt; slack_below_sight = lit< tt }
sound_numbers Ec16P4 = record { some_data = lit< tt; few_shards = lit≤ tt; data_below_quorum = lit< tt; quorum_within_total = lit≤ tt; quorum_below_double = lit< tt; sight_is = refl; data_within_sight = lit≤ tt; slack_below_sight = lit< tt }
sound_numbers Ec15P12 = record { some_data = lit< tt; few_shards = lit≤ tt; data_below_quorum = lit< tt; quorum_within_total = lit≤ tt; quorum_below_double = lit< tt; sight_is = refl; data_within_sight = lit≤ tt; slack_below_sight = lit< tt }

pub sound_shapes : (mode : Mode) (disks : ℕ) → IsVolumeShape (volume_shape mode disks)
sound_shapes Ec3P3 disks = record { more = lit< tt; within = lit≤ tt; twice = lit< tt; overlap = refl; seen = lit≤ tt; beyond = lit< tt; few_units = lit≤ tt; few_moves = lit≤ tt }
sound_shapes Ec6P3 disks = record { more = lit< tt; within = lit≤ tt; twice = lit< tt; overlap = refl; seen = lit≤ tt; beyond = lit< tt; few_units = lit≤ tt; few_moves = lit≤ tt }
sound_shapes Ec6P6 disks = record { more = lit< tt; within = lit≤ tt; twice = lit< tt; overlap = refl; seen = lit≤ tt; beyond = lit< tt; few_units = lit≤ tt; few_moves = lit≤ tt }
sound_shapes Ec10P4 disks = record { more = lit< tt; within = lit≤ tt; twice = lit< tt; overlap = refl; seen = lit≤ tt; beyond = lit< tt; few_units = lit≤ tt; few_moves = lit≤ tt }
sound_shapes Ec12P4 disks = record { more = lit< tt; within = lit≤ tt; twice = lit< tt; overlap = refl; seen = lit≤ tt; beyond = lit< tt; few_units = lit≤ tt; few_moves = lit≤ tt }
sound_shapes Ec12P9 disks = record { more = lit< tt; within = lit≤ tt; twice = lit< tt; overlap = refl; seen = lit≤ tt; beyond = lit< tt; few_units = lit≤ tt; few_moves = lit≤ tt }
sound_shapes Ec16P4 disks = record { more = lit< tt; within = lit≤ tt; twice = lit< tt; overlap = refl; seen = lit≤ tt; beyond = lit< tt; few_units = lit≤ tt; few_moves = lit≤ tt }
sound_shapes Ec15P12 disks = record { more = lit< tt; within = lit≤ tt; twice = lit< tt; overlap = refl; seen = lit≤ tt; beyond = lit< tt; few_units = lit≤ tt; few_moves = lit≤ tt }
