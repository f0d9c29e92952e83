-- The forms of a state: lengths, ranges, and that nothing is kept of what doesn't exist.
-- Why every move keeps them: no move changes a length, and each number that grows is tested before.
use Rattle.std.specs.Prelude.{ℕ, ◌≡◌, ◌<◌, ◌≤◌, Bool, false, List, length, Option, None}
use Rattle.unit_id.specs.Lists.{IsIn}
use Rattle.unit_id.specs.Place.{Location, Place}
use Rattle.code_mode.specs.VolumeShape.{last_time, last_epoch}
use Rattle.blob_node.specs.Units.{Units}
use Rattle.volume_entry.specs.Manager.{Transfer, Lock, ManagerRecord, greatest_at, transfers_of}

-- lists are as long as the volume has units, and numbers within bounds
pub record ListForm (total : ℕ) (homes : List Location) (greatest : List ℕ) (time : ℕ) : Type 0 where
  pub homes_count : length homes ≡ total
  pub greatest_count : length greatest ≡ total
  pub greatest_within : (i : ℕ) → i < total → greatest_at greatest i ≤ last_epoch
  pub time_within : time ≤ last_time

-- transfers are of different indexes of the volume
pub record LockForm (total : ℕ) (lock : Option Lock) : Type 0 where
  pub transfer_index : (t : Transfer) → IsIn t (transfers_of lock) → t.index < total
  pub one_by_index : (t u : Transfer) → IsIn t (transfers_of lock) → IsIn u (transfers_of lock) → t.index ≡ u.index → t ≡ u

-- of a unit that isn't made nothing is kept
pub record UnitForm (units : Units) : Type 0 where
  pub unmade_has_no_rows : (p : Place) → units.is_made p ≡ false → (b : ℕ) → units.row p b ≡ None
  pub unmade_has_no_fence : (p : Place) → units.is_made p ≡ false → units.fence p ≡ None
  pub unmade_is_unreleased : (p : Place) → units.is_made p ≡ false → units.is_released p ≡ false
  pub unmade_has_no_doubt : (p : Place) → units.is_made p ≡ false → units.doubt p ≡ None

-- the manager's record is in doubt only while its log is shut
pub record LogForm (is_shut : Bool) (doubt : Option ManagerRecord) : Type 0 where
  pub doubt_while_shut : is_shut ≡ false → doubt ≡ None

-- The forms of a state.
pub record Form (total : ℕ) (homes : List Location) (greatest : List ℕ) (held : Option Lock) (is_shut : Bool) (doubt : Option ManagerRecord) (stock : Units) (time : ℕ) : Type 0 where
  pub lists : ListForm total homes greatest time
  pub log : LogForm is_shut doubt
  pub lock : LockForm total held
  pub units : UnitForm stock
