-- All units of one volume that one disk keeps, and what a call on them does.
use Rattle.std.specs.Prelude.{ℕ, ◌≡◌, ◌+◌, ◌^◌, ◌-◌, ◌≤◌, ◌==◌, ◌&&◌, ◌||◌, not, min, sum_by, Bool, true, false, List, [], ◌∷◌, Option, None, Some, is_some, IsSome, IfSome, IsSomeAnd, option_map, Result, Ok, Err}
use Rattle.std.specs.Map.{values_of}
use Rattle.std.specs.Coded.{Coded, code_by, coded×, coded_ℕ, coded_bool, coded_list}
use Rattle.std.proofs.Common.{◌⊎◌, refl}
use Rattle.unit_id.specs.Lists.{IsIn, any}
use Rattle.unit_id.specs.UnitName.{Name, IsName, packed}
use Rattle.unit_id.specs.Place.{Place, is_place}
use Rattle.unit_id.specs.Messages.{place_at, request_of, answer_of}
use Rattle.unit_id.specs.Request.{place_of}
use Rattle.unit_id.specs.declared.request.Request as sent
use Rattle.unit_id.specs.declared.request.Request.TheVariants as requests
use Rattle.unit_id.specs.declared.answer.Answer as answered
use Rattle.unit_id.specs.declared.answer.Answer.TheVariants as answers
use Rattle.disk_base.specs.Faults.{Rose}
use Rattle.disk_base.specs.Disk.{FileView, AtEachMoment}
use Rattle.disk_base.specs.Places.{Kept, Keeps}
use Rattle.disk_base.specs.Shelves.{ShelfView}
use Rattle.disk_base.specs.JointMoments.{Rack, AtEachJointMoment}
use Rattle.disk_base.specs.declared.fault.NoMemory.{NoMemory}
use Rattle.chunk_store.specs.Records.{IsChunkOf}
use Rattle.blob_node.specs.Units.{Units, with_at, with_unit}
use Rattle.blob_node.specs.UnitAnswer.{Effect, Answers, view_at, units_after, settled}
use Rattle.blob_node.specs.Holding.{Written, Says, nothing_written, item_of, written_after, ShowsBytes}
use Rattle.blob_node.specs.HeldUnit.{UnitOver, coded_unit, Held, is_create, settled_by, written_by, written_settled, LeavesAtWork}
use Rattle.blob_node.specs.UnitTable.{Entries, at_word, unit_at}
use Rattle.blob_node.specs.NewChunk.{HasNoRecords}
use Rattle.blob_node.specs.declared.settled.Settled.{Settled}

-- The shelf of the disk, the numbers of volume and disk, whether the disk is broken, and the units that were made here by the words of their names.
pub record StationOver (H F : Type 0) : Type 0 where
  pub shelf : H
  pub vid : ℕ
  pub disk : ℕ
  pub is_broken : Bool
  pub units : Entries F

abbrev pub coded_station : {H F : Type 0} → Coded H → Coded F → Coded (StationOver H F)
coded_station {H} {F} shelf file =
    code_by (H × (ℕ × (ℕ × (Bool × Entries F)))) (coded× shelf (coded× coded_ℕ (coded× coded_ℕ (coded× coded_bool (coded_list (coded× coded_ℕ (coded_unit file)))))))
    (λ station. (station.shelf, (station.vid, (station.disk, (station.is_broken, station.units)))))
    (λ parts. record { shelf = parts.0; vid = parts.1.0; disk = parts.1.1.0; is_broken = parts.1.1.1.0; units = parts.1.1.1.1 }) (λ _. refl)

-- the name of the unit at a place
abbrev pub name_at : ℕ → Place → Name
name_at vid place = record { vid = vid; index = place.index; epoch = place.epoch }

-- no file of the shelf is handed out
abbrev pub IsWhole : {F : Type 0} → ShelfView F → Type 0
IsWhole shelf = (name : ℕ) → shelf.is_out name ≡ false

-- a file is handed out exactly where a unit stands under its name
abbrev pub AreOut : {F : Type 0} → ShelfView F → Entries F → Type 0
AreOut shelf units = (word : ℕ) → shelf.is_out word ≡ is_some (at_word word units)

-- the shelf with the files of the units, which are out
abbrev pub rack_of : {H F : Type 0} → StationOver H F → Rack H F
rack_of station = record { shelf = station.shelf; out = λ word. option_map (λ unit. unit.chunk.log.file) (at_word word station.units) }

-- ---- records in doubt that a restart settles

-- the units and what was written once these records in doubt are found or not
abbrev pub units_settled : ℕ → List Settled → Units → Units
units_settled disk [] units = units
units_settled disk (item ∷ rest) units = units_settled disk rest (settled (place_at item.unit disk) item.found units)

abbrev pub written_settled_by : ℕ → List Settled → (Place → Written) → Place → Written
written_settled_by disk [] written = written
written_settled_by disk (item ∷ rest) written =
    written_settled_by disk rest (with_at (place_at item.unit disk) (written_settled item.found (written (place_at item.unit disk))) written)

-- the names ascend by their words
abbrev pub AreInOrder : List Settled → Type 0
AreInOrder [] = Unit {0}
AreInOrder (item ∷ rest) = ((other : Settled) → IsIn other rest → packed item.unit + 1 ≤ packed other.unit) × AreInOrder rest

-- a record of this place was in doubt and is settled
abbrev pub is_settled : ℕ → Place → List Settled → Bool
is_settled disk place items = any (λ item. is_place (place_at item.unit disk) place) items

-- all chunks of the disk are open, or count as shut
abbrev pub all_open : ℕ → Units → Units
all_open disk units = record units { is_shut = λ place. not (place.disk == disk) && units.is_shut place }

abbrev pub all_shut : ℕ → Units → Units
all_shut disk units = record units { is_shut = λ place. (place.disk == disk) || units.is_shut place }

-- ---- what it stands for

-- no name of the volume has a file with records
abbrev pub IsUnused : {F : Type 0} → (F → FileView) → ℕ → ShelfView F → Type 0
IsUnused seen vid shelf = (unit : Name) → IsName unit → unit.vid ≡ vid → HasNoRecords seen unit (shelf.place (packed unit))

-- a crash leaves none
abbrev pub StaysUnused : {F : Type 0} → ℕ → ShelfView F → Type 0
StaysUnused vid shelf = (unit : Name) → IsName unit → unit.vid ≡ vid → (image : Option (List ℕ)) → shelf.leaves (packed unit) image → IfSome image (λ file. IsChunkOf file unit [])

-- nothing is known of a unit at this place
pub record IsBare (units : Units) (place : Place) : Type 0 where
  pub unreleased : units.is_released place ≡ false
  pub settled_ : units.doubt place ≡ None

-- no unit was made on this disk
abbrev pub HasNone : ℕ → Units → Type 0
HasNone disk units = (place : Place) → place.disk ≡ disk → (units.is_made place ≡ false) × IsBare units place

module _ {H F : Type 0} (shelf_seen : H → ShelfView F) (seen : F → FileView) where
  -- what is kept at a place, where a unit was made and where none was
  abbrev pub StandsAt : StationOver H F → (Place → Written) → Units → Place → Option (UnitOver F) → Type 0
  StandsAt station written units place (Some unit) = Held seen unit (written place) units place
  StandsAt station written units place None =
      (units.is_made place ≡ false) × HasNoRecords seen (name_at station.vid place) ((shelf_seen station.shelf).place (packed (name_at station.vid place)))

  -- The station stands for what was written to each unit of its disk, and for what the protocol knows of them.
  pub record Stands (station : StationOver H F) (written : Place → Written) (units : Units) : Type 0 where
    pub told : (shelf_seen station.shelf).is_told ≡ true
    pub named : (place : Place) → place.disk ≡ station.disk → units.is_made place ≡ true → IsName (name_at station.vid place)
    pub bare : (place : Place) → place.disk ≡ station.disk → units.is_made place ≡ false → IsBare units place
    pub each : (place : Place) → place.disk ≡ station.disk → IsName (name_at station.vid place) → StandsAt station written units place (unit_at station.units (name_at station.vid place))

  -- how often a call on the shelf or on a file of it has failed
  abbrev pub file_faults : Entries F → ℕ
  file_faults units = sum_by (λ unit. (seen unit.chunk.log.file).faults) (values_of units)

  abbrev pub faults_of : StationOver H F → ℕ
  faults_of station = (shelf_seen station.shelf).faults + file_faults station.units

  -- ---- what lasts

  -- no call on the file of any of these units ever fails
  abbrev pub AreQuiet : Entries F → Type 0
  AreQuiet [] = Unit {0}
  AreQuiet (entry ∷ rest) = ((seen entry.1.chunk.log.file).is_quiet ≡ true) × AreQuiet rest

  -- no call on the shelf or on a unit's file ever fails
  pub record IsQuiet (station : StationOver H F) : Type 0 where
    pub shelf : (shelf_seen station.shelf).is_quiet ≡ true
    pub files : AreQuiet station.units

  -- What stays or goes up whatever is asked: whether the shelf tells and whether it is quiet, that no call ever fails, and
  -- how often one has failed.
  pub record Outlasts (old new : StationOver H F) : Type 0 where
    pub told : (shelf_seen new.shelf).is_told ≡ (shelf_seen old.shelf).is_told
    pub still : (shelf_seen new.shelf).is_quiet ≡ (shelf_seen old.shelf).is_quiet
    pub quiet : IsQuiet old → IsQuiet new
    pub faults : faults_of old ≤ faults_of new

  -- ---- what a crash inside a call leaves

  -- under the name of a place: of a unit its records, without the one in doubt or with it, and where none stands what a crash before might have left
  abbrev pub LeavesRecords : (Place → Written) → StationOver H F → Place → Option (UnitOver F) → Option (List ℕ) → Type 0
  LeavesRecords written station place (Some unit) image = IsSomeAnd image (Says unit.chunk.unit (written place).items (written place).doubt)
  LeavesRecords written station place None image = (shelf_seen station.shelf).leaves (packed (name_at station.vid place)) image

  -- under a name without a unit a crash leaves no file, or one without records
  abbrev pub IsClear : StationOver H F → Type 0
  IsClear station =
      (unit : Name) → IsName unit → unit.vid ≡ station.vid → unit_at station.units unit ≡ None
      → (image : Option (List ℕ)) → (shelf_seen station.shelf).leaves (packed unit) image → IfSome image (λ file. IsChunkOf file unit [])

  -- at each moment from this station to the next, under the name of each place of its disk
  abbrev pub CrashLeaves : StationOver H F → StationOver H F → (Place → Option (UnitOver F) → Option (List ℕ) → Type 0) → Type 0
  CrashLeaves old new Leaves =
      AtEachJointMoment shelf_seen seen
      (λ image. (place : Place) → place.disk ≡ old.disk → IsName (name_at old.vid place) → Leaves place (unit_at old.units (name_at old.vid place)) (image (packed (name_at old.vid place))))
      (rack_of old) (rack_of new)

  module _ (request : sent.Request) (written : Place → Written) (units : Units) (found : Option Bool) (station : StationOver H F) where
    -- what the request may leave where it is asked: of a unit its records, with the request's or without it, and of one that is to be made a file without records
    abbrev pub LeavesAsked : Place → Option (UnitOver F) → Option (List ℕ) → Type 0
    LeavesAsked place (Some unit) image = IsSomeAnd image (LeavesAtWork request unit.chunk.unit (written_by found (written place)).items (settled_by place found units) place)
    LeavesAsked place None image = (is_create request ≡ true) × IsSomeAnd image (λ file. IsChunkOf file (name_at station.vid place) [])

    abbrev pub LeavesInCall : Place → Option (UnitOver F) → Option (List ℕ) → Type 0
    LeavesInCall place unit image = LeavesRecords written station place unit image ⊎ ((place ≡ place_of (request_of request)) × LeavesAsked place unit image)

  -- ---- a request

  -- a fault comes only where a call on the shelf or a file failed
  abbrev pub CountsFault : StationOver H F → StationOver H F → Result answered.Answer NoMemory → Type 0
  CountsFault old new (Ok answers.Fault) = Rose (faults_of old) (faults_of new)
  CountsFault old new _ = faults_of old ≤ faults_of new

  pub record StationCall (old new : StationOver H F) (result : Result answered.Answer NoMemory) : Type 0 where
    pub vid : new.vid ≡ old.vid
    pub disk : new.disk ≡ old.disk
    pub is_broken : new.is_broken ≡ old.is_broken
    pub counts : CountsFault old new result

  -- the answer by the protocol, and what the station stands for then
  pub record AnswersBy (request : sent.Request) (written : Place → Written) (units : Units) (found : Option Bool) (answer : answered.Answer) (old new : StationOver H F) : Type 0 where
    pub effect : Effect
    pub answers : Answers (view_at (λ disk. old.is_broken) (settled_by (place_of (request_of request)) found units) (place_of (request_of request))) (request_of request) (answer_of answer) effect
    pub bytes : ShowsBytes request answer (written_by found (written (place_of (request_of request)))).items
    pub stands : Stands new
        (with_at (place_of (request_of request)) (written_after effect (item_of request) (written_by found (written (place_of (request_of request))))) written)
        (units_after (place_of (request_of request)) (request_of request) effect (settled_by (place_of (request_of request)) found units))

  -- for want of memory nothing more is done than that a shut chunk may be started
  abbrev pub HandlesBy : sent.Request → (Place → Written) → Units → Option Bool → Result answered.Answer NoMemory → StationOver H F → StationOver H F → Type 0
  HandlesBy request written units found (Ok answer) old new = AnswersBy request written units found answer old new
  HandlesBy request written units found (Err _) old new =
      Stands new (with_at (place_of (request_of request)) (written_by found (written (place_of (request_of request)))) written) (settled_by (place_of (request_of request)) found units)

  -- A shut chunk was started where `found` is there, and it says whether a record that was in doubt was written. A crash at any moment leaves
  -- each unit its records, and at most one unit one record more.
  pub record Handles (request : sent.Request) (written : Place → Written) (units : Units) (found : Option Bool) (result : Result answered.Answer NoMemory) (old new : StationOver H F) : Type 0 where
    pub handles : HandlesBy request written units found result old new
    pub was_in_doubt : found ≡ Some true → is_some (units.doubt (place_of (request_of request))) ≡ true
    pub was_shut : IsSome found → units.is_shut (place_of (request_of request)) ≡ true
    pub moments : CrashLeaves old new (LeavesInCall request written units found old)
    pub clear : IsClear old → IsClear new

  -- whatever the station stands for before
  abbrev pub Handled : sent.Request → Option Bool → Result answered.Answer NoMemory → StationOver H F → StationOver H F → Type 0
  Handled request found result old new = (written : Place → Written) (units : Units) → Stands old written units → Handles request written units found result old new

  -- ---- a create

  -- what a create of a unit that isn't stale answers, and what the station stands for then
  abbrev pub CreatesBy : Place → (Place → Written) → Units → Result answered.Answer NoMemory → StationOver H F → Type 0
  CreatesBy place written units (Ok answers.Already) new = (units.is_made place ≡ true) × Stands new written units
  CreatesBy place written units (Ok answers.Done) new = (units.is_made place ≡ false) × Stands new (with_at place nothing_written written) (with_unit place units)
  CreatesBy place written units (Ok answers.Fault) new = (units.is_made place ≡ false) × Stands new written units
  CreatesBy place written units (Ok _) new = ⊥
  CreatesBy place written units (Err _) new = Stands new written units

  abbrev pub Created : Name → Result answered.Answer NoMemory → StationOver H F → StationOver H F → Type 0
  Created unit result old new = (written : Place → Written) (units : Units) → Stands old written units
      → CreatesBy (place_at unit old.disk) written units result new × CrashLeaves old new (LeavesInCall (requests.Create unit old.disk) written units None old) × (IsClear old → IsClear new)

  -- ---- a restart

  -- After Done all are open, and every record in doubt is settled. After a fault each may be shut. Want of memory ends the restart at a chunk.
  abbrev pub RestartsBy : (Place → Written) → Units → List Settled → Result answered.Answer NoMemory → StationOver H F → Type 0
  RestartsBy written units items (Ok answers.Done) new =
      Stands new (written_settled_by new.disk items written) (all_open new.disk (units_settled new.disk items units))
      × ((place : Place) → place.disk ≡ new.disk → is_some (units.doubt place) ≡ is_settled new.disk place items)
  RestartsBy written units items (Ok answers.Fault) new = Stands new (written_settled_by new.disk items written) (all_shut new.disk (units_settled new.disk items units))
  RestartsBy written units items (Ok _) new = ⊥
  RestartsBy written units items (Err _) new = Stands new (written_settled_by new.disk items written) (units_settled new.disk items units)

  pub record Restarts (written : Place → Written) (units : Units) (items : List Settled) (result : Result answered.Answer NoMemory) (new : StationOver H F) : Type 0 where
    pub restarts : RestartsBy written units items result new
    pub order : AreInOrder items
    pub own : (item : Settled) → IsIn item items → item.unit.vid ≡ new.vid
    pub in_doubt : (item : Settled) → IsIn item items → is_some (units.doubt (place_at item.unit new.disk)) ≡ true

  -- a unit of this word is there again, and at each moment in between a crash leaves of its file its records, without the one in doubt or with it
  pub record IsKept (written : Written) (word : ℕ) (was : UnitOver F) (new : StationOver H F) : Type 0 where
    pub now : UnitOver F
    pub found : at_word word new.units ≡ Some now
    pub unit : now.chunk.unit ≡ was.chunk.unit
    pub moments : AtEachMoment (seen was.chunk.log.file) (seen now.chunk.log.file) (Says was.chunk.unit written.items written.doubt)

  abbrev pub AreKept : (Place → Written) → StationOver H F → StationOver H F → Type 0
  AreKept written old new = (word : ℕ) (was : UnitOver F) → at_word word old.units ≡ Some was → IsKept (written (place_at was.chunk.unit old.disk)) word was new

  -- A broken station starts nothing. A crash at any moment of a restart leaves each unit with its records.
  abbrev pub Restarted : List Settled → Result answered.Answer NoMemory → StationOver H F → StationOver H F → Type 0
  Restarted items result old new =
      ((old.is_broken ≡ true) × (items ≡ []) × (result ≡ Ok answers.Done) × (new ≡ old))
      ⊎ ((old.is_broken ≡ false) × ((written : Place → Written) (units : Units) → Stands old written units
      → Restarts written units items result new × AreKept written old new × CrashLeaves old new (LeavesRecords written old) × (IsClear old → IsClear new)))

  -- ---- the shelf in the end

  -- a shelf that had handed out these units' files holds every file again, and counts their faults
  pub record HandsBack (old : H) (units : Entries F) (new : H) : Type 0 where
    pub whole : IsWhole (shelf_seen new)
    pub files : (word : ℕ) (unit : UnitOver F) → at_word word units ≡ Some unit → (shelf_seen new).place word ≡ Kept unit.chunk.log.file
    pub others : (word : ℕ) → is_some (at_word word units) ≡ false → Keeps ((shelf_seen old).place word) ((shelf_seen new).place word)
    pub told : (shelf_seen new).is_told ≡ (shelf_seen old).is_told
    pub count : min ((shelf_seen old).faults + file_faults units) (2 ^ 64 - 1) ≤ (shelf_seen new).faults

  abbrev pub IsHandedBack : StationOver H F → H → Type 0
  IsHandedBack station shelf = HandsBack station.shelf station.units shelf
