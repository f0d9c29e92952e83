-- Where the units of a new volume stand.
use Rattle.std.specs.Prelude.{◌≡◌, ℕ, ◌≤◌, false, List, length, slice_get, Some}
use Rattle.code_mode.specs.declared.mode.Mode.{Mode}
use Rattle.code_mode.specs.Mode.{total_count}
use Rattle.unit_id.specs.declared.homes.Home.{Home}
use Rattle.unit_id.specs.declared.unit_name.UnitName.{UnitName}
use Rattle.cluster_admin.specs.declared.placer.Place.{Place}

-- a disk of a store that has so many, which count from 1
abbrev pub IsThere : ℕ → ℕ → Type 0
IsThere disk_count disk = (1 ≤ disk) × (disk ≤ disk_count)

-- an option has this disk
abbrev pub IsOffered : List Place → ℕ → Type 0
IsOffered options disk = (place : ℕ) × (option : Place) × (slice_get options place ≡ Some option) × (disk ≡ option.disk)

-- the disks of a list are there, and no two of them are one
pub record AreApart (disk_count : ℕ) (disks : List ℕ) : Type 0 where
  pub there : (place disk : ℕ) → slice_get disks place ≡ Some disk → IsThere disk_count disk
  pub apart : (i j disk : ℕ) → slice_get disks i ≡ Some disk → slice_get disks j ≡ Some disk → i ≡ j

-- the unit of this index of a new volume
abbrev pub first_unit : ℕ → ℕ → UnitName
first_unit vid index = record { vid = vid; index = index; epoch = 1 }

-- the units of a new volume of this number, in a store of so many disks
pub record AreNewHomes (disk_count : ℕ) (mode : Mode) (vid : ℕ) (homes : List Home) : Type 0 where
  -- one home for each unit of the mode
  pub count : length homes ≡ total_count mode
  -- at each place that of the unit of this index, of epoch 1, on a disk that isn't broken
  pub own : (place : ℕ) (home : Home) → slice_get homes place ≡ Some home → (home.unit ≡ first_unit vid place) × (home.broken ≡ false)
  -- on a disk of the store
  pub there : (place : ℕ) (home : Home) → slice_get homes place ≡ Some home → IsThere disk_count home.disk
  -- no two on one disk
  pub apart : (i j : ℕ) (one other : Home) → slice_get homes i ≡ Some one → slice_get homes j ≡ Some other → one.disk ≡ other.disk → i ≡ j
