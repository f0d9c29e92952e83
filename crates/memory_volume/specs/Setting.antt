-- What a volume in memory is made of: new stations, and homes on the disks of the next numbers.
use Rattle.std.specs.Prelude.{ℕ, ◌≡◌, ◌+◌, ◌==◌, cond, false, List, map, length}
use Rattle.std.specs.List.{range_with_len}
use Rattle.unit_id.specs.Lists.{IsIn}
use Rattle.unit_id.specs.declared.homes.Home.{Home}
use Rattle.disk_base.specs.Images.{FileState, view_of}
use Rattle.disk_base.specs.Racks.{ShelfState, shelf_view}
use Rattle.blob_node.specs.Station.{StationOver}
use Rattle.volume_world.specs.Stations.{AreOn}
use Rattle.volume_world.specs.WorldMaking.{IsNewStation}

-- a station over a shelf in memory
abbrev pub MemoryStation : Type 0
MemoryStation = StationOver ShelfState FileState

-- a station on this disk that may be one of a new volume
pub record IsNewOn (place : ℕ) (station : MemoryStation) : Type 0 where
  pub vid : station.vid ≡ 1
  pub disk : station.disk ≡ place
  pub new : IsNewStation (shelf_view view_of) view_of 1 station

-- the stations of a new volume on its first so many disks
pub record AreNew (count : ℕ) (stations : List MemoryStation) : Type 0 where
  pub on : AreOn 1 1 stations
  pub length_is : length stations ≡ count
  pub new : (station : MemoryStation) → IsIn station stations → IsNewStation (shelf_view view_of) view_of 1 station

-- the unit of an index on the disk of the next number; that of index 0 begins with this epoch, each other one with 1
abbrev pub first_home : ℕ → ℕ → Home
first_home first index = record { unit = record { vid = 1; index = index; epoch = cond (index == 0) first 1 }; disk = index + 1; broken = false }

-- the units of the first so many indexes
abbrev pub first_homes : ℕ → ℕ → List Home
first_homes first count = map (first_home first) (range_with_len 0 count)
