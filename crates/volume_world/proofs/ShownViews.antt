-- What the manager's part shows of units and moves is what a volume's replies may show.
use Rattle.std.proofs.Common.{subst, ℕ, suc, List, [], ◌∷◌, Option, Some, None}
use Rattle.unit_id.specs.UnitName.{Name}
use Rattle.unit_id.specs.declared.homes.Home.{Home}
use Rattle.unit_id.specs.declared.moves.Move.{Move}
use Rattle.disk_base.specs.Disk.{FileView}
use Rattle.disk_base.specs.Shelves.{ShelfView}
use Rattle.volume_entry.specs.TableParts.{shape_of}
use Rattle.volume_entry.specs.Places as places
use Rattle.volume_entry.specs.declared.view.LockView.{LockView}
use Rattle.volume_entry.specs.declared.view.View.{View}
use Rattle.volume_world.specs.Way.{Origin}
use Rattle.volume_world.specs.Way as way
use Rattle.volume_world.specs.Asking.{IsUnitOn}
use Rattle.volume_world.specs.Origins.{origin_of}
use Rattle.volume_world.specs.Replying.{AreHomesFrom, AreHomes, AreMovesEach, AreMoves, AreHeldMoves, ShowsView}
use Rattle.volume_world.specs.World.{WorldOver}
use Rattle.volume_world.specs.WorldSteps.{IsOneVolume}

module _ (origin : Origin) where
  unit_as : (unit : Name) (disk : ℕ) → places.IsUnitOn origin.vid (way.shape_of origin) unit disk → IsUnitOn origin unit disk
  unit_as unit disk is = record { volume = is.volume; index = is.index; there = is.there }

  homes_from : (index : ℕ) (homes : List Home) → places.AreHomesFrom origin.vid (way.shape_of origin) index homes → AreHomesFrom origin index homes
  homes_from index [] are = tt
  homes_from index (home ∷ homes) are = (unit_as home.unit home.disk are.0, are.1, homes_from (suc index) homes are.2)

  homes_as : (homes : List Home) → places.AreHomes origin.vid (way.shape_of origin) homes → AreHomes origin homes
  homes_as homes are = record { count = are.count; each = homes_from 0 homes are.each }

  moves_each : (moves : List Move) → places.AreMovesEach origin.vid (way.shape_of origin) moves → AreMovesEach origin moves
  moves_each [] are = tt
  moves_each (move ∷ moves) are = (unit_as move.unit move.disk are.0, are.1, moves_each moves are.2)

  pub moves_as : (moves : List Move) → places.AreMoves origin.vid (way.shape_of origin) moves → AreMoves origin moves
  moves_as moves are = record { most = are.most; each = moves_each moves are.each }

  held_as : (held : Option LockView) → places.AreHeldMoves origin.vid (way.shape_of origin) held → AreHeldMoves origin held
  held_as None are = tt
  held_as (Some lock) are = moves_as lock.moves are

  view_as : (view : View) → places.ShowsPlaces origin.vid (way.shape_of origin) view → ShowsView origin view
  view_as view shows = record { homes = homes_as view.units shows.homes; moves = held_as view.held shows.moves }

module _ {H F : Type 0} (shelf_seen : H → ShelfView F) (seen : F → FileView) (world : WorldOver H F) (one : IsOneVolume world) where
  -- a view of the manager's part is one of the volume
  pub view_shows : (view : View) → places.ShowsPlaces world.entry.book.vid (shape_of world.entry.book.shape) view → ShowsView (origin_of shelf_seen seen world) view
  view_shows view shows =
      view_as (origin_of shelf_seen seen world) view
      (subst (λ vid. places.ShowsPlaces vid (shape_of world.shape) view) one.vid
      (subst (λ shape. places.ShowsPlaces world.entry.book.vid (shape_of shape) view) one.shape shows))

  -- .. and so are the moves of a grant
  pub moves_show : (moves : List Move) → places.AreMoves world.entry.book.vid (shape_of world.entry.book.shape) moves → AreMoves (origin_of shelf_seen seen world) moves
  moves_show moves are =
      moves_as (origin_of shelf_seen seen world) moves
      (subst (λ vid. places.AreMoves vid (shape_of world.shape) moves) one.vid
      (subst (λ shape. places.AreMoves world.entry.book.vid (shape_of shape) moves) one.shape are))
