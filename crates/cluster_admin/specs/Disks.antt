-- The disks of a store.
use Rattle.std.specs.Prelude.{ℕ, ◌-◌, ◌==◌, if◌then◌else◌, Bool, true, false, ◌&&◌, not, List, slice_get, Option, None}
use Rattle.std.specs.List.{count_by}
use Rattle.cluster_admin.specs.declared.disks.Disk.{Disk}
use Rattle.cluster_admin.specs.declared.disks.DiskState.{DiskState}
use Rattle.cluster_admin.specs.declared.disks.DiskState.TheVariants as states

-- a disk at first
abbrev pub new_disk : Disk
new_disk = record { state = states.Normal; drains = false }

abbrev pub is_normal : DiskState → Bool
is_normal states.Normal = true
is_normal _ = false

abbrev pub is_broken : DiskState → Bool
is_broken states.Broken = true
is_broken states.Repairing = true
is_broken _ = false

-- new units may come to the disk
abbrev pub is_free : Disk → Bool
is_free disk = is_normal disk.state && not disk.drains

abbrev pub is_bad_state : DiskState → Bool
is_bad_state states.Normal = false
is_bad_state states.Dropped = false
is_bad_state _ = true

-- a destination on the disk has to be given up
abbrev pub is_bad : Disk → Bool
is_bad disk = is_bad_state disk.state

-- the disk of a number, which counts from 1
abbrev pub disk_at : List Disk → ℕ → Option Disk
disk_at disks number = if number == 0 then None else slice_get disks (number - 1)

-- how many disks new units may come to
abbrev pub free_count : List Disk → ℕ
free_count disks = count_by is_free disks
