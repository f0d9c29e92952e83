-- How a volume is made over shelves that a farm hands out, and what a refusal leaves of the farm.
use Rattle.std.specs.Prelude.{ℕ, ◌≡◌, ◌+◌, ◌<◌, ◌≤◌, true, false, List, [], ◌∷◌, ◌++◌, length, Result, Ok, Err, IsSome, Vec}
use Rattle.std.specs.declared.alloc.Global.{Global}
use Rattle.unit_id.specs.Lists.{IsIn}
use Rattle.unit_id.specs.declared.homes.Home.{Home}
use Rattle.disk_base.specs.Disk.{FileView}
use Rattle.disk_base.specs.Places.{Place, Unknown, Absent, Away, Kept}
use Rattle.disk_base.specs.Shelves.{ShelfView}
use Rattle.disk_base.specs.Farms.{FarmView, ShelvesStay, OtherShelvesStay}
use Rattle.disk_base.specs.declared.fault.FarmFault.{FarmFault}
use Rattle.disk_base.specs.declared.fault.FarmFault.TheVariants as farm_faults
use Rattle.disk_base.specs.declared.fault.ShelfFault.{ShelfFault}
use Rattle.disk_base.specs.declared.fault.ShelfFault.TheVariants as shelf_faults
use Rattle.code_mode.specs.declared.mode.Mode.{Mode}
use Rattle.blob_node.specs.Station.{StationOver}
use Rattle.blob_node.specs.Station as single
use Rattle.volume_entry.specs.Making.{IsNew}
use Rattle.volume_entry.specs.Manager.{AreFirstHomes}
use Rattle.volume_entry.specs.TableParts.{shape_of}
use Rattle.volume_world.specs.Stations.{AreOn}
use Rattle.volume_world.specs.Stations as all
use Rattle.volume_world.specs.Origins.{are_told, is_told, made_with}
use Rattle.volume_world.specs.WorldWay.{IsLedTo}
use Rattle.volume_world.specs.WorldMaking.{AreHomesOf, CountsRefusal, IsNewStation, IsPlain, locations}
use Rattle.volume_world.specs.declared.world_fault.WorldFault.{WorldFault}
use Rattle.volume_world.specs.declared.world_fault.WorldFault.TheVariants as faults
use Rattle.farm_volume.specs.Lending.{AreBack, AreOut, OthersStay}
use Rattle.farm_volume.specs.FarmVolume.{VolumeOver}

-- ---- why a volume isn't made

-- the farm doesn't hand a shelf out; that its root isn't empty is no answer to that
abbrev pub shelf_fault : FarmFault → WorldFault
shelf_fault farm_faults.Failed = faults.Fault
shelf_fault farm_faults.Memory = faults.Memory
shelf_fault farm_faults.NotEmpty = faults.Spoiled 0

-- the log's file isn't made: one that is there already isn't a new log
abbrev pub log_fault : ShelfFault → WorldFault
log_fault shelf_faults.Failed = faults.Fault
log_fault shelf_faults.Memory = faults.Memory
log_fault shelf_faults.Exists = faults.Spoiled 0
log_fault shelf_faults.Absent = faults.Spoiled 0

-- ---- shelves that a new volume may have

-- a shelf has no file
pub record HasNoFiles {F : Type 0} (shelf : ShelfView F) : Type 0 where
  pub out : (name : ℕ) → shelf.is_out name ≡ false
  pub absent : (name : ℕ) → shelf.place name ≡ Absent

-- at a place there is no file, or nothing is known
abbrev pub IsFresh : {S F : Type 0} → (S → ShelfView F) → Place S → Type 0
IsFresh shelf_seen Unknown = Unit {0}
IsFresh shelf_seen Absent = Unit {0}
IsFresh shelf_seen Away = ⊥
IsFresh shelf_seen (Kept shelf) = HasNoFiles (shelf_seen shelf)

-- .. on so many disks from this one on
abbrev pub AreFresh : {S F : Type 0} → (S → ShelfView F) → ℕ → ℕ → ℕ → FarmView S → Type 0
AreFresh shelf_seen vid first count farm = (d : ℕ) → first ≤ d → d < first + count → IsFresh shelf_seen (farm.place d vid)

-- the shelves of disk 0 and of so many disks are at the farm, without files, and with these homes a volume may be made
pub record CanMake {S F : Type 0} (shelf_seen : S → ShelfView F) (vid : ℕ) (mode : Mode) (disks : ℕ) (homes : List Home) (farm : FarmView S) : Type 0 where
  pub back : AreBack vid 0 (disks + 1) farm
  pub fresh : AreFresh shelf_seen vid 0 (disks + 1) farm
  pub few : disks ≤ 64
  pub first : AreFirstHomes (shape_of (record { mode = mode; disks = disks })) (locations homes)
  pub own : AreHomesOf vid 0 homes

-- ---- what becomes of shelves

module _ {S : Type 0} where
  -- a shelf is handed out, and no call failed
  pub record IsOneOut (disk vid : ℕ) (old new : FarmView S) : Type 0 where
    pub out : new.is_out disk vid ≡ true
    pub others : OtherShelvesStay disk vid old new
    pub faults : new.faults ≡ old.faults
    pub told : new.is_told ≡ old.is_told

  -- no shelf goes out, for want of memory or since a call failed
  pub record IsNotLent (old new : FarmView S) (fault : WorldFault) : Type 0 where
    pub stay : ShelvesStay old new
    pub counts : CountsRefusal old.faults new.faults fault
    pub told : new.is_told ≡ old.is_told
    pub plain : IsPlain fault

  -- No volume is made: each shelf of so many disks from this one on is at the farm, and no other shelf moved. A fault comes only where a call
  -- failed. Over a farm that tells there is no other cause but memory.
  pub record AreRefused (vid first count : ℕ) (old new : FarmView S) (fault : WorldFault) : Type 0 where
    pub back : AreBack vid first count new
    pub others : OthersStay vid first count old new
    pub counts : CountsRefusal old.faults new.faults fault
    pub told : new.is_told ≡ old.is_told
    pub plain : old.is_told ≡ true → IsPlain fault

module _ {S F : Type 0} (shelf_seen : S → ShelfView F) where
  -- no log is made: the shelf of disk 0 is at the farm again
  pub record IsLogRefused (vid : ℕ) (old new : FarmView S) (fault : WorldFault) : Type 0 where
    pub back : new.is_out 0 vid ≡ false
    pub others : OtherShelvesStay 0 vid old new
    pub counts : CountsRefusal old.faults new.faults fault
    pub told : new.is_told ≡ old.is_told
    pub plain : old.is_told ≡ true → IsFresh shelf_seen (old.place 0 vid) → IsPlain fault

module _ {S F : Type 0} (shelf_seen : S → ShelfView F) (seen : F → FileView) where
  -- ---- one shelf

  -- the shelf of disk 0 is out, and a new file on it
  pub record IsLogOut (vid : ℕ) (manager : S) (file : F) (old new : FarmView S) : Type 0 where
    pub one : IsOneOut 0 vid old new
    pub out : (shelf_seen manager).is_out vid ≡ true
    pub is_new : IsNew (seen file)
    pub told : old.is_told ≡ true → IsSome (seen file).content
    pub faults : (seen file).faults ≡ 0

  abbrev pub LendsLog : ℕ → FarmView S → FarmView S → Result (S × F) WorldFault → Type 0
  LendsLog vid old new (Ok taken) = IsLogOut vid taken.0 taken.1 old new
  LendsLog vid old new (Err fault) = IsLogRefused shelf_seen vid old new fault

  -- a disk's shelf is out, and a new station over it
  pub record IsStationOut (vid disk : ℕ) (station : StationOver S F) (old new : FarmView S) : Type 0 where
    pub one : IsOneOut disk vid old new
    pub vid_is : station.vid ≡ vid
    pub disk_is : station.disk ≡ disk
    pub is_new : IsNewStation shelf_seen seen vid station
    pub told : (shelf_seen station.shelf).is_told ≡ old.is_told
    pub faults : single.faults_of shelf_seen seen station ≡ 0

  abbrev pub LendsStation : ℕ → ℕ → FarmView S → FarmView S → Result (StationOver S F) WorldFault → Type 0
  LendsStation vid disk old new (Ok station) = IsStationOut vid disk station old new
  LendsStation vid disk old new (Err fault) = IsNotLent old new fault

  -- the station of the next disk is put behind those that there are
  abbrev pub LendsNext : ℕ → List (StationOver S F) → List (StationOver S F) → FarmView S → FarmView S → Result (Unit {0}) WorldFault → Type 0
  LendsNext vid before after old new (Ok _) = (station : StationOver S F) × (after ≡ before ++ station ∷ []) × IsStationOut vid (1 + length before) station old new
  LendsNext vid before after old new (Err fault) = (after ≡ before) × IsNotLent old new fault

  -- ---- all shelves

  -- the shelves of the disks from 1 on are out, with a new station over each
  pub record AreLent (vid : ℕ) (stations : List (StationOver S F)) (old new : FarmView S) : Type 0 where
    pub on : AreOn vid 1 stations
    pub out : AreOut vid 1 (length stations) new
    pub others : OthersStay vid 1 (length stations) old new
    pub each : (station : StationOver S F) → IsIn station stations → IsNewStation shelf_seen seen vid station
    pub none_failed : all.faults_of shelf_seen seen stations ≡ 0
    pub tell : old.is_told ≡ true → are_told shelf_seen seen stations ≡ true
    pub faults : new.faults ≡ old.faults
    pub told : new.is_told ≡ old.is_told

  abbrev pub LendsStations : ℕ → ℕ → FarmView S → FarmView S → Result (Vec (StationOver S F) Global) WorldFault → Type 0
  LendsStations vid disks old new (Ok stations) = (length stations.items ≡ disks) × AreLent vid stations.items old new
  LendsStations vid disks old new (Err fault) = AreRefused vid 1 disks old new fault

  -- ---- the volume

  -- A volume is made of this number, mode, disks and homes, without entries. Its shelves are out, no other shelf moved, and no call of the farm's
  -- failed. Over a farm that tells, all of the volume's files tell, and it is as made.
  pub record IsMade (vid : ℕ) (mode : Mode) (disks : ℕ) (homes : List Home) (old new : FarmView S) (volume : VolumeOver S F) : Type 0 where
    pub number : volume.world.vid ≡ vid
    pub shape : volume.world.shape ≡ record { mode = mode; disks = disks }
    pub first : volume.world.first ≡ locations homes
    pub entries : volume.world.history.entries ≡ []
    pub out : AreOut vid 0 (disks + 1) new
    pub others : OthersStay vid 0 (disks + 1) old new
    pub faults : new.faults ≡ old.faults
    pub told : new.is_told ≡ old.is_told
    pub tells : old.is_told ≡ true → is_told shelf_seen seen volume.world ≡ true
    pub made : old.is_told ≡ true → IsLedTo shelf_seen seen volume.world (made_with (shape_of volume.world.shape).total volume.world.first)

  abbrev pub Makes : ℕ → Mode → ℕ → List Home → FarmView S → FarmView S → Result (VolumeOver S F) WorldFault → Type 0
  Makes vid mode disks homes old new (Ok volume) = IsMade vid mode disks homes old new volume
  Makes vid mode disks homes old new (Err fault) = AreRefused vid 0 (disks + 1) old new fault
