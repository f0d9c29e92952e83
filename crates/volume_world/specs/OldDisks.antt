-- On a disk that a swap leaves, its old unit is alone.
-- Why every move keeps it: homes are apart, and destinations take disks without a home, so it holds when a swap is written; from then on
-- homes and transfers stay as they are until the lock ends.
use Rattle.std.specs.Prelude.{ℕ, ◌≡◌, ◌<◌, true, List, Option, is_some}
use Rattle.unit_id.specs.Lists.{IsIn}
use Rattle.unit_id.specs.Place.{Location, Place}
use Rattle.code_mode.specs.VolumeShape.{VolumeShape}
use Rattle.blob_node.specs.Units.{Units}
use Rattle.volume_entry.specs.Manager.{Transfer, Lock, home_at, transfers_of, is_swapped}
use Rattle.volume_world.specs.State.{State}
use Rattle.volume_world.specs.Invariant.{Kept}

-- no current unit stands on the disk of an old one, and old units of different indexes stand on different disks
pub record OldDisks (total : ℕ) (homes : List Location) (lock : Option Lock) : Type 0 where
  pub free : is_swapped lock ≡ true → (t : Transfer) → IsIn t (transfers_of lock) → (i : ℕ) → i < total → (home_at homes i).disk ≡ t.old.disk → ⊥
  pub apart : is_swapped lock ≡ true → (t u : Transfer) → IsIn t (transfers_of lock) → IsIn u (transfers_of lock) → t.old.disk ≡ u.old.disk → t.index ≡ u.index

-- a record in doubt stands in a shut chunk
abbrev pub AreDoubtsShut : Units → Type 0
AreDoubtsShut units = (place : Place) → is_some (units.doubt place) ≡ true → units.is_shut place ≡ true

-- what is kept by every move, with these
pub record KeptApart (shape : VolumeShape) (s : State) : Type 0 where
  pub kept : Kept shape s
  pub old_disks : OldDisks shape.total s.manager.homes s.manager.lock
  pub shut : AreDoubtsShut s.units
