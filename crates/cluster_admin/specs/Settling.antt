-- Disks that are done with.
use Rattle.std.specs.Prelude.{ℕ, ◌+◌, ◌==◌, ◌||◌, not, if◌then◌else◌, Bool, true, false, List, [], ◌∷◌, ◌++◌, Option, Some, None}
use Rattle.cluster_admin.specs.declared.disks.Disk.{Disk}
use Rattle.cluster_admin.specs.declared.disks.DiskState.{DiskState}
use Rattle.cluster_admin.specs.declared.disks.DiskState.TheVariants as states
use Rattle.cluster_admin.specs.declared.volumes.Volume.{Volume}
use Rattle.cluster_admin.specs.declared.plans.Planned.{Planned}
use Rattle.cluster_admin.specs.Volumes.{units_on}
use Rattle.cluster_admin.specs.Plans.{has_disk}

-- a disk was ever given to one of these tasks
abbrev pub was_given : List Planned → ℕ → Bool
was_given [] disk = false
was_given (task ∷ tasks) disk = if has_disk task.given disk then true else was_given tasks disk

abbrev pub last_state_by : DiskState → Bool → Option DiskState
last_state_by states.Repairing drains = Some states.Repaired
last_state_by states.Normal true = Some states.Dropped
last_state_by _ _ = None

-- the state in which a disk ends once nothing is left on it
abbrev pub last_state : Disk → Option DiskState
last_state disk = last_state_by disk.state disk.drains

-- a disk in a new state, if there is one
abbrev pub disk_after : Disk → Option DiskState → Disk
disk_after disk None = disk
disk_after disk (Some state) = record { state = state; drains = false }

module _ (volumes : List (Option Volume)) (tasks : List Planned) where
  -- the state that the disk of this number takes now
  abbrev pub end_of : ℕ → Disk → Option DiskState
  end_of number disk = if not (units_on volumes number == 0) || was_given tasks number then None else last_state disk

  abbrev pub change : ℕ → Option DiskState → List (ℕ × DiskState)
  change number None = []
  change number (Some state) = (number, state) ∷ []

  -- the disks from this number on, each in the state that it takes now
  abbrev pub settled_from : ℕ → List Disk → List Disk
  settled_from number [] = []
  settled_from number (disk ∷ disks) = disk_after disk (end_of number disk) ∷ settled_from (number + 1) disks

  -- those of them that change, with their new states
  abbrev pub changes_from : ℕ → List Disk → List (ℕ × DiskState)
  changes_from number [] = []
  changes_from number (disk ∷ disks) = change number (end_of number disk) ++ changes_from (number + 1) disks
