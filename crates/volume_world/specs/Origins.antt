-- A world as the first volume of its ways: its number, mode and disks, what its files tell, how often they failed, and how it was made.
use Rattle.std.specs.Prelude.{ℕ, ◌+◌, ◌&&◌, Bool, true, false, List, [], ◌∷◌, is_some, nat_lt}
use Rattle.unit_id.specs.Place.{Location, Place, is_place}
use Rattle.disk_base.specs.Disk.{FileView}
use Rattle.disk_base.specs.Shelves.{ShelfView}
use Rattle.code_mode.specs.VolumeShape.{VolumeShape}
use Rattle.blob_node.specs.Station.{StationOver}
use Rattle.volume_entry.specs.Manager.{current}
use Rattle.volume_entry.specs.TableParts.{shape_of}
use Rattle.volume_world.specs.State.{fresh}
use Rattle.volume_world.specs.Run.{World}
use Rattle.volume_world.specs.Way.{Origin}
use Rattle.volume_world.specs.Stations as all
use Rattle.volume_world.specs.World.{WorldOver}

-- a place is that of one of these homes
abbrev pub is_of_homes : ℕ → List Location → Place → Bool
is_of_homes total homes place = nat_lt place.index total && is_place place (current homes place.index)

-- a volume as made with these homes, with all of their units
abbrev pub made_with : ℕ → List Location → World
made_with total homes = record { state = fresh homes (is_of_homes total homes); planned = []; late = [] }

module _ {H F : Type 0} (shelf_seen : H → ShelfView F) (seen : F → FileView) where
  -- each shelf tells its names and files
  abbrev pub are_told : List (StationOver H F) → Bool
  are_told [] = true
  are_told (station ∷ stations) = (shelf_seen station.shelf).is_told && are_told stations

  -- no call on a shelf ever fails
  abbrev pub are_quiet : List (StationOver H F) → Bool
  are_quiet [] = true
  are_quiet (station ∷ stations) = (shelf_seen station.shelf).is_quiet && are_quiet stations

  -- all files tell what they hold
  abbrev pub is_told : WorldOver H F → Bool
  is_told world = are_told world.stations && is_some (seen world.entry.book.log.file).content

  -- no file ever fails
  abbrev pub is_quiet : WorldOver H F → Bool
  is_quiet world = are_quiet world.stations && (seen world.entry.book.log.file).is_quiet

  -- how often a shelf or a file has failed
  abbrev pub faults_of : WorldOver H F → ℕ
  faults_of world = all.faults_of shelf_seen seen world.stations + (seen world.entry.book.log.file).faults

  abbrev pub origin_of : WorldOver H F → Origin
  origin_of world = record {
    vid = world.vid;
    mode = world.shape.mode;
    disks = world.shape.disks;
    is_told = is_told world;
    is_quiet = is_quiet world;
    start = made_with (shape_of world.shape).total world.first;
  }
