-- The volumes of a store, and the units on disks.
use Rattle.std.specs.Prelude.{ℕ, ◌+◌, ◌-◌, ◌==◌, if◌then◌else◌, nat_eq, List, [], ◌∷◌, slice_get, Option, Some, None}
use Rattle.std.specs.List.{count_by}
use Rattle.cluster_admin.specs.declared.volumes.Volume.{Volume}

-- the volume of a number, which counts from 1; a lost one is no more there
abbrev pub volume_in : Option (Option Volume) → Option Volume
volume_in (Some slot) = slot
volume_in None = None

abbrev pub volume_at : List (Option Volume) → ℕ → Option Volume
volume_at volumes vid = if vid == 0 then None else volume_in (slice_get volumes (vid - 1))

-- how many units of a volume stand on a disk
abbrev pub units_in : ℕ → Option Volume → ℕ
units_in disk (Some volume) = count_by (nat_eq disk) volume.homes
units_in disk None = 0

-- how many units of all volumes stand on a disk
abbrev pub units_on : List (Option Volume) → ℕ → ℕ
units_on [] disk = 0
units_on (slot ∷ slots) disk = units_in disk slot + units_on slots disk
