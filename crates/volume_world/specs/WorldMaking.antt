-- How a world is made: of what, what it then is, and what a refusal hands back.
use Rattle.std.specs.Prelude.{ℕ, suc, ◌≡◌, ◌+◌, ◌<◌, ◌≤◌, true, false, List, [], ◌∷◌, map, length, IfSome, IsSome, IsSomeAnd, Result, Ok, Err}
use Rattle.unit_id.specs.Lists.{IsIn}
use Rattle.unit_id.specs.Place.{Location, Place}
use Rattle.unit_id.specs.Messages.{place_at}
use Rattle.unit_id.specs.declared.homes.Home.{Home}
use Rattle.unit_id.specs.declared.answer.Answer as answered
use Rattle.unit_id.specs.declared.answer.Answer.TheVariants as answers
use Rattle.disk_base.specs.Faults.{Rose}
use Rattle.disk_base.specs.Disk.{FileView, Lasts}
use Rattle.disk_base.specs.Shelves.{ShelfView}
use Rattle.disk_base.specs.declared.fault.NoMemory.{NoMemory}
use Rattle.code_mode.specs.declared.mode.Mode.{Mode}
use Rattle.blob_node.specs.Units.{Units, with_unit}
use Rattle.blob_node.specs.Holding.{Written, nothing_written}
use Rattle.blob_node.specs.Station.{StationOver, IsUnused}
use Rattle.volume_entry.specs.Book.{MayHaveRecord}
use Rattle.volume_entry.specs.Making.{IsNew}
use Rattle.volume_entry.specs.Manager.{AreFirstHomes, ManagerRecord, home_at}
use Rattle.volume_entry.specs.TableParts.{shape_of}
use Rattle.volume_entry.specs.declared.fault.EntryFault.{EntryFault}
use Rattle.volume_entry.specs.declared.fault.EntryFault.TheVariants as entry_faults
use Rattle.volume_world.specs.State.{fresh}
use Rattle.volume_world.specs.Stations.{StationsOver, AreStations, HasDisk, AllStand, AllOutlast, is_broken_on}
use Rattle.volume_world.specs.Stations as all
use Rattle.volume_world.specs.World.{WorldOver}
use Rattle.volume_world.specs.Origins.{are_told, is_of_homes, made_with, faults_of}
use Rattle.volume_world.specs.Stepping.{IsSound, IsAt}
use Rattle.volume_world.specs.declared.world_fault.WorldFault.{WorldFault}
use Rattle.volume_world.specs.declared.world_fault.WorldFault.TheVariants.{Fault, Damaged, Spoiled, Memory}

-- why a volume isn't made, and its stations and its file as they then are
pub record RefusedOver (H F : Type 0) : Type 0 where
  pub fault : WorldFault
  pub stations : List (StationOver H F)
  pub file : F

-- ---- homes

-- where the unit of a home stands
abbrev pub location_of : Home → Location
location_of home = record { epoch = home.unit.epoch; disk = home.disk }

abbrev pub locations : List Home → List Location
locations homes = map location_of homes

-- homes of the volume's units, whose indexes are numbered from this one on
abbrev pub AreHomesOf : ℕ → ℕ → List Home → Type 0
AreHomesOf vid index [] = Unit {0}
AreHomesOf vid index (home ∷ homes) = (home.unit.vid ≡ vid) × (home.unit.index ≡ index) × AreHomesOf vid (suc index) homes

-- the homes are those of the volume, on disks of its stations
pub record FitsHomes {H F : Type 0} (homes : List Home) (stations : StationsOver H F) : Type 0 where
  pub own : AreHomesOf stations.vid 0 homes
  pub disks : (index : ℕ) → index < length homes → HasDisk stations.stations (home_at (locations homes) index).disk

-- ---- faults

-- what the answer to a create of a new volume's unit says of the making
abbrev pub unit_made : Result answered.Answer NoMemory → Result (Unit {0}) WorldFault
unit_made (Ok answers.Done) = Ok tt
unit_made (Ok answers.Fault) = Err Fault
unit_made (Ok (answers.Damaged kept computed)) = Err (Damaged kept computed)
unit_made (Ok (answers.Spoiled place)) = Err (Spoiled place)
unit_made (Ok _) = Err (Spoiled 0)
unit_made (Err _) = Err Memory

-- .. and what a refusal to make its log does
abbrev pub entry_fault : EntryFault → WorldFault
entry_fault entry_faults.Fault = Fault
entry_fault (entry_faults.Spoiled place) = Spoiled place
entry_fault entry_faults.Shut = Spoiled 0
entry_fault entry_faults.Memory = Memory

-- a fault comes only where a count rose
abbrev pub CountsRefusal : ℕ → ℕ → WorldFault → Type 0
CountsRefusal before now Fault = Rose before now
CountsRefusal before now _ = before ≤ now

abbrev pub CountsMaking : ℕ → ℕ → Result (Unit {0}) WorldFault → Type 0
CountsMaking before now (Ok _) = before ≤ now
CountsMaking before now (Err fault) = CountsRefusal before now fault

-- a file failed, or there was no memory
abbrev pub IsPlain : WorldFault → Type 0
IsPlain Fault = Unit {0}
IsPlain Memory = Unit {0}
IsPlain _ = ⊥

-- nothing was written to any unit
abbrev pub none_written : Place → Written
none_written place = nothing_written

module _ {H F : Type 0} (shelf_seen : H → ShelfView F) (seen : F → FileView) where
  -- ---- units

  -- the stations are those of their disks still
  pub record KeepsStations (old new : StationsOver H F) : Type 0 where
    pub vid : new.vid ≡ old.vid
    pub count : length new.stations ≡ length old.stations
    pub broken : (disk : ℕ) → is_broken_on new.stations disk ≡ is_broken_on old.stations disk
    pub lasts : AllOutlast shelf_seen seen old.stations new.stations

  -- a unit can be made at a place: its disk works and has no unit of its index, and no shut chunk
  pub record IsFree (stations : StationsOver H F) (units : Units) (place : Place) : Type 0 where
    pub stand : AllStand shelf_seen seen stations.stations none_written units
    pub unbroken : is_broken_on stations.stations place.disk ≡ false
    pub unmade : (epoch : ℕ) → units.is_made (record { index = place.index; epoch = epoch; disk = place.disk }) ≡ false
    pub open_ : units.is_shut place ≡ false

  -- the unit at a place is made besides these, or it isn't
  abbrev pub HasUnit : Place → Units → StationsOver H F → Result (Unit {0}) WorldFault → Type 0
  HasUnit place units new (Ok _) = AllStand shelf_seen seen new.stations none_written (with_unit place units)
  HasUnit place units new (Err fault) = IsPlain fault × AllStand shelf_seen seen new.stations none_written units

  pub record MakesUnit (home : Home) (old new : StationsOver H F) (result : Result (Unit {0}) WorldFault) : Type 0 where
    pub keeps : KeepsStations old new
    pub counts : CountsMaking (all.faults_of shelf_seen seen old.stations) (all.faults_of shelf_seen seen new.stations) result
    pub made : (units : Units) → IsFree old units (place_at home.unit home.disk) → HasUnit (place_at home.unit home.disk) units new result

  -- stations on which the units of the first so many homes are made
  abbrev pub HaveUnits : List Location → ℕ → List (StationOver H F) → Type 0
  HaveUnits homes count stations = AllStand shelf_seen seen stations none_written (fresh homes (is_of_homes count homes)).units

  -- .. of the first so many, and of no others
  pub record HaveSome (homes : List Home) (stations : List (StationOver H F)) : Type 0 where
    pub count : ℕ
    pub few : count ≤ length homes
    pub made : HaveUnits (locations homes) count stations

  -- no unit is made yet, and each disk works
  pub record HaveNone (homes : List Home) (stations : List (StationOver H F)) : Type 0 where
    pub made : HaveUnits (locations homes) 0 stations
    pub unbroken : (disk : ℕ) → is_broken_on stations disk ≡ false

  -- the first so many units are made
  pub record MakesFirst (homes : List Home) (count : ℕ) (old new : StationsOver H F) : Type 0 where
    pub keeps : KeepsStations old new
    pub counts : all.faults_of shelf_seen seen old.stations ≤ all.faults_of shelf_seen seen new.stations
    pub made : HaveNone homes old.stations → HaveUnits (locations homes) count new.stations

  -- a refusal to make the units leaves the stations those of their disks, with the first of the units
  pub record RefusesUnits (homes : List Home) (old new : StationsOver H F) (fault : WorldFault) : Type 0 where
    pub keeps : KeepsStations old new
    pub counts : CountsRefusal (all.faults_of shelf_seen seen old.stations) (all.faults_of shelf_seen seen new.stations) fault
    pub plain : HaveNone homes old.stations → IsPlain fault
    pub made : HaveNone homes old.stations → HaveSome homes new.stations

  -- all units are made, or they are refused
  abbrev pub MakesUnits : List Home → StationsOver H F → StationsOver H F → Result (Unit {0}) WorldFault → Type 0
  MakesUnits homes old new (Ok _) = MakesFirst homes (length homes) old new
  MakesUnits homes old new (Err fault) = RefusesUnits homes old new fault

  -- ---- the world

  -- a station with no unit, whose disk isn't broken, over a shelf on which no unit of the volume has a file with records
  pub record IsNewStation (vid : ℕ) (station : StationOver H F) : Type 0 where
    pub units : station.units ≡ []
    pub unbroken : station.is_broken ≡ false
    pub unused : (shelf_seen station.shelf).is_told ≡ true → IsUnused seen vid (shelf_seen station.shelf)

  -- new stations of disks 1 and so on, a new file, and homes with which a volume of this mode may be made on these disks
  pub record CanMake (vid : ℕ) (mode : Mode) (stations : List (StationOver H F)) (file : F) (homes : List Home) : Type 0 where
    pub are : AreStations vid stations
    pub few : length stations ≤ 64
    pub new : (station : StationOver H F) → IsIn station stations → IsNewStation vid station
    pub is_new : IsNew (seen file)
    pub first : AreFirstHomes (shape_of (record { mode = mode; disks = length stations })) (locations homes)
    pub own : AreHomesOf vid 0 homes

  -- how often a shelf or a file has failed of what a world is made of
  abbrev pub faults_before : List (StationOver H F) → F → ℕ
  faults_before stations file = all.faults_of shelf_seen seen stations + (seen file).faults

  -- A world is made: it is sound, with no entries, on the stations that were handed in; where all files told, the volume is as made.
  pub record IsMadeOf (vid : ℕ) (mode : Mode) (stations : List (StationOver H F)) (file : F) (homes : List Home) (world : WorldOver H F) : Type 0 where
    pub vid_is : world.vid ≡ vid
    pub shape : world.shape ≡ record { mode = mode; disks = length stations }
    pub first : world.first ≡ locations homes
    pub entries : world.history.entries ≡ []
    pub sound : IsSound shelf_seen seen world
    pub lasts : AllOutlast shelf_seen seen stations world.stations
    pub log : Lasts (seen file) (seen world.entry.book.log.file)
    pub faults : faults_before stations file ≤ faults_of shelf_seen seen world
    pub told : are_told shelf_seen seen stations ≡ true → IsSome (seen file).content → IsAt shelf_seen seen world (made_with (shape_of world.shape).total world.first)

  -- where the file told its bytes, those of the other are an empty log's, or one's with the record of the making alone
  abbrev pub LeavesLog : ℕ → Mode → List Home → F → F → Type 0
  LeavesLog vid mode homes file left = IfSome (seen file).content (λ _. IsSomeAnd (seen left).content (MayHaveRecord vid mode [] (ManagerRecord.Made (locations homes))))

  -- A world isn't made: what was handed in comes back, each station on its disk. A fault comes only where a count of these rose. Where all
  -- files told, there is no other cause but memory, and the stations have the units of the first homes and nothing else.
  pub record HandsBack (vid : ℕ) (mode : Mode) (stations : List (StationOver H F)) (file : F) (homes : List Home) (refused : RefusedOver H F) : Type 0 where
    pub lasts : AllOutlast shelf_seen seen stations refused.stations
    pub unbroken : (disk : ℕ) → is_broken_on refused.stations disk ≡ false
    pub counts : CountsRefusal (faults_before stations file) (faults_before refused.stations refused.file) refused.fault
    pub plain : are_told shelf_seen seen stations ≡ true → IsSome (seen file).content → IsPlain refused.fault
    pub units : are_told shelf_seen seen stations ≡ true → HaveSome homes refused.stations
    pub log : LeavesLog vid mode homes file refused.file

  abbrev pub MakesWorld : ℕ → Mode → List (StationOver H F) → F → List Home → Result (WorldOver H F) (RefusedOver H F) → Type 0
  MakesWorld vid mode stations file homes (Ok world) = IsMadeOf vid mode stations file homes world
  MakesWorld vid mode stations file homes (Err refused) = HandsBack vid mode stations file homes refused
