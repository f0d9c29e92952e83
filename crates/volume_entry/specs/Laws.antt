-- What follows from the records of a log.
use Rattle.std.specs.Prelude.{ℕ, ◌≡◌, ◌+◌, ◌<◌, ◌≤◌, ◌⊎◌, Bool, true, false, List, None, is_some}
use Rattle.unit_id.specs.Lists.{IsIn, is_in, count_below}
use Rattle.unit_id.specs.Place.{Place}
use Rattle.unit_id.specs.Shown.{Shown}
use Rattle.unit_id.specs.Request.{Request, Answer}
use Rattle.unit_id.specs.declared.targets.Target.{Target}
use Rattle.code_mode.specs.VolumeShape.{VolumeShape, lease_length, last_time, last_epoch}
use Rattle.volume_entry.specs.Manager.{IsDisk, IsBid, IsLegal, Transfer, HeardRow, HeardMark, Heard, Grant, ManagerRecord, Manager, nothing_heard, home_at, greatest_at, transfers_of, is_swapped, has_number, written, IsFree, LeadsBy, IsLog}
use Rattle.volume_entry.specs.Benchmark.{Due, benchmark_of, is_listed}
use Rattle.volume_entry.specs.ManagerStep.{AreTargets, lease_refusal, retarget_refusal, ask_refusal, lock_record, retarget_record, grants_of, is_mark_heard, lock_refusal, swap_refusal, unlock_refusal, commit_refusal, AreAllSettled, hear}

-- two manager's parts of one log are the same
abbrev pub LogsSayOneThing : Type 0
LogsSayOneThing = (shape : VolumeShape) (items : List ManagerRecord) (m n : Manager) → IsLog shape items m → IsLog shape items n → m ≡ n

-- legal records lower no epoch that was given, and no lock number
pub record EpochsOnlyGrow : Type 0 where
  pub epochs : (shape : VolumeShape) (m n : Manager) (items : List ManagerRecord) (index : ℕ) → LeadsBy shape m items n → greatest_at m.greatest index ≤ greatest_at n.greatest index
  pub locks : (shape : VolumeShape) (m n : Manager) (items : List ManagerRecord) → LeadsBy shape m items n → m.granted ≤ n.granted

-- what a lock that passes its tests shows: no lock, the lease is over, and each target's disk is unbroken, without a current unit and another target
pub record LockShows (broken : ℕ → Bool) (time : ℕ) (targets : List Target) (m : Manager) : Type 0 where
  pub unlocked : m.lock ≡ None
  pub over : m.lease_end ≤ time
  pub unbroken : (t : Target) → IsIn t targets → broken t.disk ≡ false
  pub free : (t : Target) → IsIn t targets → IsFree m.homes t.disk
  pub apart : (t u : Target) → IsIn t targets → IsIn u targets → t.disk ≡ u.disk → t.index ≡ u.index

-- what a swap that passes its tests shows
pub record SwapShows (shape : VolumeShape) (broken : ℕ → Bool) (m : Manager) : Type 0 where
  pub locked : is_some m.lock ≡ true
  pub unswapped : is_swapped m.lock ≡ false
  pub unbroken : (t : Transfer) → IsIn t (transfers_of m.lock) → broken t.dest.disk ≡ false
  pub fenced : (t : Transfer) → IsIn t (transfers_of m.lock) → (is_in t.index m.heard.fenced ≡ true) ⊎ (broken t.old.disk ≡ true)
  pub listed : shape.sight ≤ count_below shape.total (is_listed m.homes broken m.heard.listings)

-- a row of the blob was heard at the destination of the index, live or marked
abbrev pub IsHeardThere : Heard → ℕ → ℕ → Type 0
IsHeardThere heard index bid = (row : HeardRow) × (IsIn row heard.live ⊎ IsIn row heard.marked) × (row.index ≡ index) × (row.bid ≡ bid)

-- a mark of the blob was heard of the current unit of the index
abbrev pub IsMarkedNow : Manager → ℕ → ℕ → Type 0
IsMarkedNow m bid index = (mark : HeardMark) × IsIn mark m.marks × (mark.bid ≡ bid) × (mark.index ≡ index) × (mark.epoch ≡ (home_at m.homes index).epoch)

-- What the manager's steps show when they are done, and what hearing doesn't do.
pub record StepsShow : Type 0 where
  pub lock : (broken : ℕ → Bool) (time : ℕ) (targets : List Target) (m : Manager) → lock_refusal broken time targets m ≡ None → LockShows broken time targets m
  pub epochs : (greatest : List ℕ) (targets : List Target) (grant : Grant) → IsIn grant (grants_of greatest targets) → greatest_at greatest grant.index < grant.dest.epoch
  pub swap : (shape : VolumeShape) (broken : ℕ → Bool) (task : ℕ) (m : Manager) → swap_refusal shape broken task m ≡ None → SwapShows shape broken m
  pub copied : (shape : VolumeShape) (broken : ℕ → Bool) (m : Manager) (t : Transfer) (bid : ℕ) → AreAllSettled shape broken m → IsIn t (transfers_of m.lock)
      → benchmark_of shape m.homes broken m.heard.listings bid ≡ Due.Copy → IsHeardThere m.heard t.index bid
  pub unlock : (broken : ℕ → Bool) (task : ℕ) (m : Manager) → unlock_refusal broken task m ≡ None
      → (is_swapped m.lock ≡ true) × ((t : Transfer) → IsIn t (transfers_of m.lock) → (is_in t.index m.heard.released ≡ true) ⊎ (broken t.old.disk ≡ true))
  pub commit : (shape : VolumeShape) (bid : ℕ) (m : Manager) → commit_refusal shape bid m ≡ None
      → (is_in bid m.asked ≡ true) × (m.lock ≡ None) × (shape.sight ≤ count_below shape.total (is_mark_heard m.homes m.marks bid))
  pub marked : (m : Manager) (bid index : ℕ) → is_mark_heard m.homes m.marks bid index ≡ true → IsMarkedNow m bid index
  pub earlier : (place : Place) (number said : ℕ) (shown : Shown) (m : Manager) → has_number m.lock number ≡ false → hear (Request.List place number) (Answer.Listing said shown) m ≡ m
  pub anew : (task number : ℕ) (grants : List Grant) (m : Manager) → (written (ManagerRecord.Locked task number grants) m).heard ≡ nothing_heard

-- no epoch beyond the last was given
abbrev pub IsWithinLast : VolumeShape → List ℕ → Type 0
IsWithinLast shape greatest = (index : ℕ) → index < shape.total → greatest_at greatest index ≤ last_epoch

-- Where no refusal holds, the record that the step writes is legal behind the log's others.
pub record StepsWriteLegalRecords : Type 0 where
  pub lease : (shape : VolumeShape) (time : ℕ) (m : Manager) → time ≤ last_time → lease_refusal m ≡ None → IsLegal shape m (ManagerRecord.Leased (time + lease_length))
  pub lock : (shape : VolumeShape) (broken : ℕ → Bool) (time task : ℕ) (targets : List Target) (m : Manager) → time ≤ last_time → IsWithinLast shape m.greatest → AreTargets shape targets
      → lock_refusal broken time targets m ≡ None → IsLegal shape m (lock_record task targets m)
  pub retarget : (shape : VolumeShape) (broken : ℕ → Bool) (task index disk : ℕ) (m : Manager) → IsWithinLast shape m.greatest → index < shape.total → IsDisk shape disk
      → retarget_refusal broken task index disk m ≡ None → IsLegal shape m (retarget_record index disk m)
  pub swap : (shape : VolumeShape) (broken : ℕ → Bool) (task : ℕ) (m : Manager) → swap_refusal shape broken task m ≡ None → IsLegal shape m ManagerRecord.Swapped
  pub unlock : (shape : VolumeShape) (broken : ℕ → Bool) (task : ℕ) (m : Manager) → unlock_refusal broken task m ≡ None → IsLegal shape m ManagerRecord.Unlocked
  pub ask : (shape : VolumeShape) (begun : Bool) (bid : ℕ) (m : Manager) → IsBid bid → ask_refusal begun bid m ≡ None → IsLegal shape m (ManagerRecord.Asked bid)
  pub commit : (shape : VolumeShape) (bid : ℕ) (m : Manager) → IsBid bid → commit_refusal shape bid m ≡ None → IsLegal shape m (ManagerRecord.Committed bid)
