-- The facts that make the nine parts inductive.
-- Why every move keeps them: each is what one step's tests say at its moment, and no other move takes it back.
use Rattle.std.specs.Prelude.{ℕ, ◌≡◌, ◌+◌, ◌<◌, ◌≤◌, ◌⊎◌, Bool, true, false, List, Option, Some, None, is_some}
use Rattle.unit_id.specs.Lists.{IsIn, is_in}
use Rattle.unit_id.specs.Place.{Location, Place}
use Rattle.code_mode.specs.VolumeShape.{lease_length}
use Rattle.unit_id.specs.Request.{Request, Answer, Given}
use Rattle.blob_node.specs.Units.{RowState, UnitRecord, Units, is_row_record}
use Rattle.volume_entry.specs.Manager.{Transfer, Lock, ManagerRecord, home_at, transfers_of, is_swapped, has_number}
use Rattle.volume_world.specs.State.{Status, Post}
use Rattle.volume_world.specs.BlobStatus.{is_begun}

-- the unit is released, or the same index got a later unit on that disk
abbrev pub IsOutlived : (Place → Bool) → (Place → Bool) → Place → Type 0
IsOutlived is_made is_released p = (is_released p ≡ true) ⊎ ((e : ℕ) × (p.epoch < e) × (is_made (record { index = p.index; epoch = e; disk = p.disk }) ≡ true))

-- of the lock's number and its transfers' epochs
pub record LockFacts (homes : List Location) (granted : ℕ) (lock : Option Lock) : Type 0 where
  pub lock_number_granted : (number : ℕ) → has_number lock number ≡ true → number ≤ granted
  pub old_units_current : is_swapped lock ≡ false → (t : Transfer) → IsIn t (transfers_of lock) → home_at homes t.index ≡ t.old
  pub destinations_above_current : is_swapped lock ≡ false → (t : Transfer) → IsIn t (transfers_of lock) → (home_at homes t.index).epoch < t.dest.epoch
  pub old_units_below_current : is_swapped lock ≡ true → (t : Transfer) → IsIn t (transfers_of lock) → t.old.epoch < (home_at homes t.index).epoch

-- of the lease end
pub record LeaseFacts (lease_end : ℕ) (doubt : Option ManagerRecord) (time : ℕ) : Type 0 where
  pub lease_within_term : lease_end ≤ time + lease_length
  pub doubtful_lease_within_term : (end : ℕ) → doubt ≡ Some (ManagerRecord.Leased end) → end ≤ time + lease_length

-- of deletes
pub record AskFacts (asked : List ℕ) (doubt : Option ManagerRecord) (status : ℕ → Status) : Type 0 where
  pub asked_is_begun : (b : ℕ) → is_in b asked ≡ true → is_begun (status b) ≡ true
  pub doubtful_ask_is_begun : (b : ℕ) → doubt ≡ Some (ManagerRecord.Asked b) → is_begun (status b) ≡ true

-- of answers given
pub record PostFacts (is_made is_released : Place → Bool) (post : Post) : Type 0 where
  pub given_were_issued : (g : Given) → IsIn g post.given → IsIn g.request post.issued
  pub stale_release_explained : (p : Place) (have : ℕ) → IsIn (record { request = Request.Release p; answer = Answer.Stale have }) post.given → IsOutlived is_made is_released p

-- of fenced and released units
pub record UnitFacts (row : Place → ℕ → Option RowState) (fence : Place → Option ℕ) (is_released : Place → Bool) (doubt : Place → Option UnitRecord) : Type 0 where
  pub fenced_units_have_no_row_doubt : (p : Place) → is_some (fence p) ≡ true → is_row_record (doubt p) ≡ false
  pub released_units_have_no_rows : (p : Place) → is_released p ≡ true → (b : ℕ) → row p b ≡ None
  pub released_units_have_no_fence : (p : Place) → is_released p ≡ true → fence p ≡ None
  pub released_units_have_no_doubt : (p : Place) → is_released p ≡ true → doubt p ≡ None

-- The facts that make the nine parts inductive.
pub record Support (homes : List Location) (lease_end granted : ℕ) (lock : Option Lock) (asked : List ℕ) (doubt : Option ManagerRecord)
    (status : ℕ → Status) (stock : Units) (mail : Post) (time : ℕ) : Type 0 where
  pub locks : LockFacts homes granted lock
  pub leases : LeaseFacts lease_end doubt time
  pub asks : AskFacts asked doubt status
  pub post : PostFacts stock.is_made stock.is_released mail
  pub units : UnitFacts stock.row stock.fence stock.is_released stock.doubt
