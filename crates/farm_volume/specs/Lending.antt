-- The shelves of a farm that are one volume's, and how they go back.
use Rattle.std.specs.Prelude.{ℕ, ◌≡◌, ◌+◌, ◌-◌, ◌^◌, ◌<◌, ◌≤◌, min, true, false, List, [], ◌∷◌, length}
use Rattle.disk_base.specs.Disk.{FileView}
use Rattle.disk_base.specs.Places.{Place, Kept}
use Rattle.disk_base.specs.Shelves.{ShelfView, TakesBack}
use Rattle.disk_base.specs.Farms.{FarmView, TakesShelfBack}
use Rattle.blob_node.specs.Station.{StationOver, IsHandedBack}
use Rattle.volume_world.specs.Stations as all

-- a shelf that isn't one of the volume's on so many disks from this one on
abbrev pub IsBeside : ℕ → ℕ → ℕ → ℕ → ℕ → Type 0
IsBeside vid first count d v = first ≤ d → d < first + count → v ≡ vid → ⊥

module _ {S : Type 0} where
  -- each of them is out, or each is back
  abbrev pub AreOut : ℕ → ℕ → ℕ → FarmView S → Type 0
  AreOut vid first count farm = (d : ℕ) → first ≤ d → d < first + count → farm.is_out d vid ≡ true

  abbrev pub AreBack : ℕ → ℕ → ℕ → FarmView S → Type 0
  AreBack vid first count farm = (d : ℕ) → first ≤ d → d < first + count → farm.is_out d vid ≡ false

  -- each other shelf is where it was
  pub record OthersStay (vid first count : ℕ) (old new : FarmView S) : Type 0 where
    pub out : (d v : ℕ) → IsBeside vid first count d v → new.is_out d v ≡ old.is_out d v
    pub places : (d v : ℕ) → IsBeside vid first count d v → new.place d v ≡ old.place d v

module _ {S E : Type 0} (shelf_seen : S → ShelfView E) (seen : E → FileView) where
  -- the shelf of a station is kept at a place, with its units' files
  pub record KeepsShelf (station : StationOver S E) (place : Place S) : Type 0 where
    pub shelf : S
    pub kept : place ≡ Kept shelf
    pub handed : IsHandedBack shelf_seen seen station shelf

  -- .. that of each station at its disk
  abbrev pub AllKept : ℕ → List (StationOver S E) → FarmView S → Type 0
  AllKept vid [] farm = Unit {0}
  AllKept vid (station ∷ stations) farm = KeepsShelf station (farm.place station.disk vid) × AllKept vid stations farm

  -- the shelves of the volume's stations, from this disk on, are back, with all their faults
  pub record Returns (vid first : ℕ) (stations : List (StationOver S E)) (old new : FarmView S) : Type 0 where
    pub back : AreBack vid first (length stations) new
    pub kept : AllKept vid stations new
    pub others : OthersStay vid first (length stations) old new
    pub count : min (old.faults + all.faults_of shelf_seen seen stations) (2 ^ 64 - 1) ≤ new.faults
    pub never_falls : old.faults ≤ new.faults
    pub told : new.is_told ≡ old.is_told

  -- the file of the log is back on the manager's shelf, and this on the farm
  pub record ReturnsLog (vid : ℕ) (manager : S) (file : E) (old new : FarmView S) : Type 0 where
    pub shelf : S
    pub log : TakesBack seen vid file (shelf_seen manager) (shelf_seen shelf)
    pub takes : TakesShelfBack shelf_seen 0 vid shelf old new
