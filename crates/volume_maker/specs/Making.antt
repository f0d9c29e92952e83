-- What it takes to have a volume more, and what that leaves of the tables and of the farm.
use Rattle.std.specs.Prelude.{ℕ, ◌≡◌, ◌+◌, List, length, None, Some, Result, Ok, Err}
use Rattle.unit_id.specs.declared.homes.Home.{Home}
use Rattle.disk_base.specs.Disk.{FileView}
use Rattle.disk_base.specs.Shelves.{ShelfView}
use Rattle.disk_base.specs.Farms.{FarmView}
use Rattle.code_mode.specs.declared.mode.Mode.{Mode}
use Rattle.cluster_admin.specs.Cluster.{State}
use Rattle.cluster_admin.specs.Drawing.{new_homes, with_volume}
use Rattle.cluster_admin.specs.NewHomes.{AreNewHomes}
use Rattle.cluster_admin.specs.Picking.{without_volume}
use Rattle.cluster_admin.specs.Refusals.{new_volume_fault}
use Rattle.volume_world.specs.declared.world_fault.WorldFault.{WorldFault}
use Rattle.farm_volume.specs.Lending.{AreBack}
use Rattle.farm_volume.specs.FarmVolume.{VolumeOver}
use Rattle.farm_volume.specs.Making.{AreFresh, AreRefused, IsMade}
use Rattle.volume_maker.specs.declared.fault.NoVolume.{NoVolume}
use Rattle.volume_maker.specs.declared.fault.NoVolume.TheVariants.{Refused, NotMade}

-- the number of the next volume
abbrev pub next_number : State → ℕ
next_number tables = length tables.volumes + 1

-- its units on these disks
abbrev pub next_homes : State → List ℕ → List Home
next_homes tables disks = new_homes (next_number tables) 0 disks

-- the farm has the shelves of the next number, without files
pub record HasRoom {S F : Type 0} (shelf_seen : S → ShelfView F) (tables : State) (farm : FarmView S) : Type 0 where
  pub back : AreBack (next_number tables) 0 (length tables.disks + 1) farm
  pub fresh : AreFresh shelf_seen (next_number tables) 0 (length tables.disks + 1) farm

-- the tables have room for a volume of this mode, and give it these disks, no two alike
pub record IsGiven (mode : Mode) (old : State) (disks : List ℕ) : Type 0 where
  pub open_ : new_volume_fault old mode ≡ None
  pub legal : AreNewHomes (length old.disks) mode (next_number old) (next_homes old disks)

module _ {S F : Type 0} (shelf_seen : S → ShelfView F) (seen : F → FileView) (mode : Mode) (old new : State) (before after : FarmView S) where
  -- there is a volume more, in the tables and over the farm
  pub record IsNext (volume : VolumeOver S F) : Type 0 where
    pub disks : List ℕ
    pub given : IsGiven mode old disks
    pub tables : new ≡ with_volume old mode disks
    pub made : IsMade shelf_seen seen (next_number old) mode (length old.disks) (next_homes old disks) before after volume

  -- the number is spent, and every shelf is at the farm
  pub record IsSpent (cause : WorldFault) : Type 0 where
    pub disks : List ℕ
    pub given : IsGiven mode old disks
    pub tables : new ≡ without_volume (with_volume old mode disks) (next_number old)
    pub refused : AreRefused (next_number old) 0 (length old.disks + 1) before after cause

  abbrev pub MakesVolume : Result (VolumeOver S F) NoVolume → Type 0
  MakesVolume (Ok volume) = IsNext volume
  MakesVolume (Err (Refused cause)) = (new_volume_fault old mode ≡ Some cause) × (new ≡ old) × (after ≡ before)
  MakesVolume (Err (NotMade cause)) = IsSpent cause
