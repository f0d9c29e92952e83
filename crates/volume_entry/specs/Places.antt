-- Which places a look and a grant show, whatever the volume's file tells.
use Rattle.std.specs.Prelude.{ℕ, suc, ◌≡◌, ◌+◌, ◌<◌, ◌≤◌, List, [], ◌∷◌, length, Option, None, Some}
use Rattle.unit_id.specs.UnitName.{Name}
use Rattle.unit_id.specs.declared.homes.Home.{Home}
use Rattle.unit_id.specs.declared.moves.Move.{Move}
use Rattle.code_mode.specs.VolumeShape.{VolumeShape}
use Rattle.volume_entry.specs.Manager.{IsDisk}
use Rattle.volume_entry.specs.declared.event.ManagerReply.{ManagerReply}
use Rattle.volume_entry.specs.declared.event.ManagerReply.TheVariants as replies
use Rattle.volume_entry.specs.declared.view.LockView.{LockView}
use Rattle.volume_entry.specs.declared.view.View.{View}

-- a unit of the volume, and one of its disks
pub record IsUnitOn (vid : ℕ) (shape : VolumeShape) (unit : Name) (disk : ℕ) : Type 0 where
  pub volume : unit.vid ≡ vid
  pub index : unit.index < shape.total
  pub there : IsDisk shape disk

-- units of the volume from an index on, each on one of its disks
abbrev pub AreHomesFrom : ℕ → VolumeShape → ℕ → List Home → Type 0
AreHomesFrom vid shape index [] = Unit {0}
AreHomesFrom vid shape index (home ∷ homes) = IsUnitOn vid shape home.unit home.disk × (home.unit.index ≡ index) × AreHomesFrom vid shape (suc index) homes

-- all units of the volume, in order of index
pub record AreHomes (vid : ℕ) (shape : VolumeShape) (homes : List Home) : Type 0 where
  pub count : length homes ≡ shape.total
  pub each : AreHomesFrom vid shape 0 homes

-- units of the volume, each on one of its disks and with the index of its move
abbrev pub AreMovesEach : ℕ → VolumeShape → List Move → Type 0
AreMovesEach vid shape [] = Unit {0}
AreMovesEach vid shape (move ∷ moves) = IsUnitOn vid shape move.unit move.disk × (move.unit.index ≡ move.index) × AreMovesEach vid shape moves

-- what a lock moves: no more units than a volume can lose
pub record AreMoves (vid : ℕ) (shape : VolumeShape) (moves : List Move) : Type 0 where
  pub most : length moves + shape.data_count ≤ shape.quorum
  pub each : AreMovesEach vid shape moves

abbrev pub AreHeldMoves : ℕ → VolumeShape → Option LockView → Type 0
AreHeldMoves vid shape None = Unit {0}
AreHeldMoves vid shape (Some lock) = AreMoves vid shape lock.moves

-- what a look shows
pub record ShowsPlaces (vid : ℕ) (shape : VolumeShape) (view : View) : Type 0 where
  pub homes : AreHomes vid shape view.units
  pub moves : AreHeldMoves vid shape view.held

-- what a grant shows
abbrev pub GrantsPlaces : ℕ → VolumeShape → ManagerReply → Type 0
GrantsPlaces vid shape (replies.Granted lock moves) = AreMoves vid shape moves
GrantsPlaces vid shape _ = Unit {0}
