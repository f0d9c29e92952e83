-- Which disks may be chosen for a unit.
use Rattle.std.specs.Prelude.{ℕ, ◌+◌, ◌&&◌, ◌||◌, not, nat_eq, if◌then◌else◌, Bool, List, [], ◌∷◌, Option}
use Rattle.std.specs.List.{list_any}
use Rattle.cluster_admin.specs.declared.placer.Place.{Place}
use Rattle.cluster_admin.specs.declared.disks.Disk.{Disk}
use Rattle.cluster_admin.specs.declared.volumes.Volume.{Volume}
use Rattle.cluster_admin.specs.declared.plans.Planned.{Planned}
use Rattle.cluster_admin.specs.Disks.{is_free}
use Rattle.cluster_admin.specs.Volumes.{units_on}
use Rattle.cluster_admin.specs.Plans.{is_aimed}

-- a unit of a volume with these homes stands on the disk or is to go there
abbrev pub is_taken : List ℕ → List Planned → ℕ → ℕ → Bool
is_taken homes tasks vid disk = list_any (λ home. nat_eq home disk) homes || is_aimed tasks vid disk

module _ (volumes : List (Option Volume)) (homes : List ℕ) (tasks : List Planned) (vid : ℕ) where
  -- of the disks from this number on, those that may be chosen for a unit of the volume, each with the units that stand on it
  abbrev pub options_from : ℕ → List Disk → List Place
  options_from number [] = []
  options_from number (disk ∷ disks) =
      if is_free disk && not (is_taken homes tasks vid number)
      then record { disk = number; units = units_on volumes number } ∷ options_from (number + 1) disks
      else options_from (number + 1) disks

-- the disks that may be chosen for a unit of a volume, ascending
abbrev pub options_of : List Disk → List (Option Volume) → List ℕ → List Planned → ℕ → List Place
options_of disks volumes homes tasks vid = options_from volumes homes tasks vid 1 disks
