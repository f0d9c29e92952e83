-- The stations of a volume, one for each of its disks, and what a call on one of them does to what all stand for.
use Rattle.std.specs.Prelude.{ℕ, suc, ◌≡◌, ◌<◌, ◌≤◌, ◌^◌, ◌&&◌, ◌||◌, ◌==◌, sum_by, length, Bool, true, false, List, [], ◌∷◌, Option, Some, IsSome, is_some, Result, Ok, Err}
use Rattle.std.specs.Coded.{Coded, code_by, coded×, coded_ℕ, coded_list}
use Rattle.std.proofs.Common.{◌⊎◌, refl}
use Rattle.unit_id.specs.Place.{Place}
use Rattle.unit_id.specs.Lists.{IsIn}
use Rattle.unit_id.specs.Messages.{place_at, request_of, answer_of}
use Rattle.unit_id.specs.Request.{place_of}
use Rattle.unit_id.specs.declared.request.Request as sent
use Rattle.unit_id.specs.declared.answer.Answer as answered
use Rattle.unit_id.specs.declared.answer.Answer.TheVariants as answers
use Rattle.disk_base.specs.Faults.{Rose}
use Rattle.disk_base.specs.Disk.{FileView}
use Rattle.disk_base.specs.Shelves.{ShelfView}
use Rattle.disk_base.specs.declared.fault.NoMemory.{NoMemory}
use Rattle.blob_node.specs.Units.{Units, with_at}
use Rattle.blob_node.specs.UnitAnswer.{Effect, Answers, view_at, units_after}
use Rattle.blob_node.specs.HeldUnit.{settled_by, written_by}
use Rattle.blob_node.specs.Holding.{Written, item_of, written_after, ShowsBytes}
use Rattle.blob_node.specs.Station.{StationOver, Stands}
use Rattle.blob_node.specs.Station as single
use Rattle.blob_node.specs.declared.settled.Settled.{Settled}

-- the number of the volume, and its stations by disk
pub record StationsOver (H F : Type 0) : Type 0 where
  pub vid : ℕ
  pub stations : List (StationOver H F)

abbrev pub coded_stations : {H F : Type 0} → Coded H → Coded F → Coded (StationsOver H F)
coded_stations {H} {F} shelf file =
    code_by (ℕ × List (StationOver H F)) (coded× coded_ℕ (coded_list (single.coded_station shelf file)))
    (λ all. (all.vid, all.stations)) (λ parts. record { vid = parts.0; stations = parts.1 }) (λ _. refl)

-- stations of this volume, whose disks are numbered from this one on
abbrev pub AreOn : {H F : Type 0} → ℕ → ℕ → List (StationOver H F) → Type 0
AreOn vid disk [] = Unit {0}
AreOn vid disk (station ∷ stations) = (station.vid ≡ vid) × (station.disk ≡ disk) × AreOn vid (suc disk) stations

-- .. from 1 on, and so many that a disk's number has 32 bits
pub record AreStations {H F : Type 0} (vid : ℕ) (stations : List (StationOver H F)) : Type 0 where
  pub on : AreOn vid 1 stations
  pub few : length stations < 2 ^ 32

-- one of these stations is the disk's
pub record HasDisk {H F : Type 0} (stations : List (StationOver H F)) (disk : ℕ) : Type 0 where
  pub first : 1 ≤ disk
  pub last : disk ≤ length stations

-- the station of a disk is broken
abbrev pub is_broken_on : {H F : Type 0} → List (StationOver H F) → ℕ → Bool
is_broken_on [] disk = false
is_broken_on (station ∷ stations) disk = ((station.disk == disk) && station.is_broken) || is_broken_on stations disk

-- the same stations, but for which of them are broken
abbrev pub AreAlike : {H F : Type 0} → List (StationOver H F) → List (StationOver H F) → Type 0
AreAlike [] [] = Unit {0}
AreAlike (one ∷ ones) (other ∷ others) = (other ≡ record one { is_broken = other.is_broken }) × AreAlike ones others
AreAlike ones others = ⊥

module _ {H F : Type 0} (shelf_seen : H → ShelfView F) (seen : F → FileView) where
  -- each station stands for what was written to the units of its disk, and for what the protocol knows of them
  abbrev pub AllStand : List (StationOver H F) → (Place → Written) → Units → Type 0
  AllStand [] written units = Unit {0}
  AllStand (station ∷ stations) written units = Stands shelf_seen seen station written units × AllStand stations written units

  -- the answer to a request by the protocol, and what the stations stand for then
  pub record AnswersBy (request : sent.Request) (written : Place → Written) (units : Units) (found : Option Bool) (answer : answered.Answer) (old new : List (StationOver H F)) : Type 0 where
    pub effect : Effect
    pub answers : Answers (view_at (is_broken_on old) (settled_by (place_of (request_of request)) found units) (place_of (request_of request))) (request_of request) (answer_of answer) effect
    pub bytes : ShowsBytes request answer (written_by found (written (place_of (request_of request)))).items
    pub stand : AllStand new
        (with_at (place_of (request_of request)) (written_after effect (item_of request) (written_by found (written (place_of (request_of request))))) written)
        (units_after (place_of (request_of request)) (request_of request) effect (settled_by (place_of (request_of request)) found units))

  -- for want of memory nothing more is done than that a shut chunk may be started
  abbrev pub HandlesBy : sent.Request → (Place → Written) → Units → Option Bool → Result answered.Answer NoMemory → List (StationOver H F) → List (StationOver H F) → Type 0
  HandlesBy request written units found (Ok answer) old new = AnswersBy request written units found answer old new
  HandlesBy request written units found (Err _) old new =
      AllStand new (with_at (place_of (request_of request)) (written_by found (written (place_of (request_of request)))) written) (settled_by (place_of (request_of request)) found units)

  -- A shut chunk of an unbroken disk was started where `found` is there, and it says whether a record that was in doubt was written.
  pub record Handles (request : sent.Request) (written : Place → Written) (units : Units) (found : Option Bool) (result : Result answered.Answer NoMemory) (old new : List (StationOver H F)) : Type 0 where
    pub handles : HandlesBy request written units found result old new
    pub was_in_doubt : found ≡ Some true → is_some (units.doubt (place_of (request_of request))) ≡ true
    pub was_shut : IsSome found → units.is_shut (place_of (request_of request)) ≡ true
    pub was_unbroken : IsSome found → is_broken_on old (place_of (request_of request)).disk ≡ false

  -- whatever the stations stand for before
  abbrev pub Handled : sent.Request → Option Bool → Result answered.Answer NoMemory → List (StationOver H F) → List (StationOver H F) → Type 0
  Handled request found result old new = (written : Place → Written) (units : Units) → AllStand old written units → Handles request written units found result old new

  -- ---- what else a request leaves

  -- how often a call on a shelf or on a file of one has failed
  abbrev pub faults_of : List (StationOver H F) → ℕ
  faults_of stations = sum_by (single.faults_of shelf_seen seen) stations

  -- a fault comes only where a call on a shelf or a file failed
  abbrev pub CountsFault : List (StationOver H F) → List (StationOver H F) → Result answered.Answer NoMemory → Type 0
  CountsFault old new (Ok answers.Fault) = Rose (faults_of old) (faults_of new)
  CountsFault old new _ = faults_of old ≤ faults_of new

  -- no disk breaks by it
  pub record StationsCall (old new : StationsOver H F) (result : Result answered.Answer NoMemory) : Type 0 where
    pub vid : new.vid ≡ old.vid
    pub count : length new.stations ≡ length old.stations
    pub broken : (disk : ℕ) → is_broken_on new.stations disk ≡ is_broken_on old.stations disk
    pub counts : CountsFault old.stations new.stations result

  -- each station is that of its disk still, and what lasts of it does
  abbrev pub AllOutlast : List (StationOver H F) → List (StationOver H F) → Type 0
  AllOutlast [] [] = Unit {0}
  AllOutlast (one ∷ ones) (other ∷ others) = (other.vid ≡ one.vid) × (other.disk ≡ one.disk) × single.Outlasts shelf_seen seen one other × AllOutlast ones others
  AllOutlast ones others = ⊥

  -- ---- a record in doubt

  -- whatever the stations stand for, it tells whether the unit that is asked has a record in doubt, on a broken disk too
  abbrev pub TellsDoubt : sent.Request → List (StationOver H F) → Bool → Type 0
  TellsDoubt request stations result =
      (written : Place → Written) (units : Units) → AllStand stations written units → result ≡ is_some (units.doubt (place_of (request_of request)))

  -- ---- a disk that breaks

  -- the stations stand for what they stood for, and this disk is broken besides
  pub record BreaksDown (disk : ℕ) (old new : StationsOver H F) : Type 0 where
    pub vid : new.vid ≡ old.vid
    pub count : length new.stations ≡ length old.stations
    pub broken : (other : ℕ) → is_broken_on new.stations other ≡ ((other == disk) || is_broken_on old.stations other)
    pub faults : faults_of new.stations ≡ faults_of old.stations
    pub alike : AreAlike old.stations new.stations
    pub stand : (written : Place → Written) (units : Units) → AllStand old.stations written units → AllStand new.stations written units

  -- ---- a restart

  -- What the restart of one disk leaves of all: after Done its chunks are open, and every record in doubt there is settled. After a fault each
  -- of them may be shut. Want of memory ends the restart at a chunk.
  abbrev pub RestartsBy : ℕ → (Place → Written) → Units → List Settled → Result answered.Answer NoMemory → List (StationOver H F) → Type 0
  RestartsBy disk written units items (Ok answers.Done) new =
      AllStand new (single.written_settled_by disk items written) (single.all_open disk (single.units_settled disk items units))
      × ((place : Place) → place.disk ≡ disk → is_some (units.doubt place) ≡ single.is_settled disk place items)
  RestartsBy disk written units items (Ok answers.Fault) new =
      AllStand new (single.written_settled_by disk items written) (single.all_shut disk (single.units_settled disk items units))
  RestartsBy disk written units items (Ok _) new = ⊥
  RestartsBy disk written units items (Err _) new = AllStand new (single.written_settled_by disk items written) (single.units_settled disk items units)

  pub record Restarts (vid disk : ℕ) (written : Place → Written) (units : Units) (items : List Settled) (result : Result answered.Answer NoMemory) (new : List (StationOver H F)) : Type 0 where
    pub restarts : RestartsBy disk written units items result new
    pub order : single.AreInOrder items
    pub own : (item : Settled) → IsIn item items → item.unit.vid ≡ vid
    pub in_doubt : (item : Settled) → IsIn item items → is_some (units.doubt (place_at item.unit disk)) ≡ true

  -- a broken disk starts nothing
  abbrev pub Restarted : ℕ → ℕ → List Settled → Result answered.Answer NoMemory → List (StationOver H F) → List (StationOver H F) → Type 0
  Restarted vid disk items result old new =
      ((is_broken_on old disk ≡ true) × (items ≡ []) × (result ≡ Ok answers.Done) × (new ≡ old))
      ⊎ ((is_broken_on old disk ≡ false) × ((written : Place → Written) (units : Units) → AllStand old written units → Restarts vid disk written units items result new))
