-- A volume over the shelves of a farm.
use Rattle.std.specs.Prelude.{◌≡◌, ◌+◌, ◌-◌, ◌^◌, ◌≤◌, min}
use Rattle.disk_base.specs.Disk.{FileView}
use Rattle.disk_base.specs.Places.{Place, Kept}
use Rattle.disk_base.specs.Shelves.{ShelfView, TakesBack}
use Rattle.disk_base.specs.Farms.{FarmView}
use Rattle.volume_world.specs.World.{WorldOver}
use Rattle.volume_world.specs.Origins.{faults_of}
use Rattle.farm_volume.specs.Lending.{AllKept, AreBack, OthersStay}

-- The shelf of the manager's log, whose file is in the world, and the volume's world.
pub record VolumeOver (S E : Type 0) : Type 0 where
  pub manager : S
  pub world : WorldOver S E

module _ {S E : Type 0} (shelf_seen : S → ShelfView E) (seen : E → FileView) where
  -- the shelf of the manager is kept at a place, with the log's file under the volume's number
  pub record KeepsLog (volume : VolumeOver S E) (place : Place S) : Type 0 where
    pub shelf : S
    pub kept : place ≡ Kept shelf
    pub log : TakesBack seen volume.world.vid volume.world.entry.book.log.file (shelf_seen volume.manager) (shelf_seen shelf)

  -- All of the volume's shelves are back with their files, and the farm counts their faults.
  pub record IsBack (volume : VolumeOver S E) (old new : FarmView S) : Type 0 where
    pub back : AreBack volume.world.vid 0 (volume.world.shape.disks + 1) new
    pub log : KeepsLog volume (new.place 0 volume.world.vid)
    pub units : AllKept shelf_seen seen volume.world.vid volume.world.stations new
    pub others : OthersStay volume.world.vid 0 (volume.world.shape.disks + 1) old new
    pub count : min (old.faults + faults_of shelf_seen seen volume.world) (2 ^ 64 - 1) ≤ new.faults
    pub never_falls : old.faults ≤ new.faults
    pub told : new.is_told ≡ old.is_told
