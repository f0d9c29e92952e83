-- The steps of the manager: the refusals of each in order, and what it writes where none holds.
use Rattle.std.specs.Prelude.{ℕ, suc, ◌≡◌, ◌+◌, ◌<◌, ◌≤◌, length, Bool, true, false, cond, not, ◌&&◌, ◌==◌, nat_lt, List, [], ◌∷◌, ◌++◌, Option, Some, None, is_some, is_none}
use Rattle.unit_id.specs.Lists.{IsIn, any, is_in, count_below, first_that_holds}
use Rattle.unit_id.specs.Place.{Location, Place}
use Rattle.unit_id.specs.Shown.{Shown}
use Rattle.code_mode.specs.VolumeShape.{VolumeShape, lease_length, last_epoch}
use Rattle.unit_id.specs.Request.{Request, Answer}
use Rattle.volume_entry.specs.Manager.{IsDisk, Transfer, Lock, HeardRow, HeardMark, Heard, Grant, ManagerRecord, Manager, home_at, greatest_at, transfers_of, is_swapped, has_number, is_destination, is_old, is_old_there, written, in_doubt}
use Rattle.volume_entry.specs.Benchmark.{listed_count, is_unsettled}
use Rattle.unit_id.specs.declared.targets.Target.{Target}
use Rattle.volume_entry.specs.Reply.{Reply}

-- targets ascend by index
abbrev pub AreTargetsInOrder : List Target → Type 0
AreTargetsInOrder [] = Unit {0}
AreTargetsInOrder (w ∷ ws) = ((v : Target) → IsIn v ws → w.index < v.index) × AreTargetsInOrder ws

pub record IsTarget (shape : VolumeShape) (target : Target) : Type 0 where
  pub index : target.index < shape.total
  pub disk : IsDisk shape target.disk

-- what a lock may be asked to move
pub record AreTargets (shape : VolumeShape) (targets : List Target) : Type 0 where
  pub some : 1 ≤ length targets
  pub most : length targets + shape.data_count ≤ shape.quorum
  pub order : AreTargetsInOrder targets
  pub each : (w : Target) → IsIn w targets → IsTarget shape w

-- the task of a lock
abbrev pub task_of : Option Lock → ℕ
task_of None = 0
task_of (Some lock) = lock.task

-- another task has the lock
abbrev pub is_of_other : Option Lock → ℕ → Bool
is_of_other None task = false
is_of_other (Some lock) task = not (lock.task == task)

abbrev pub or_else : Option ℕ → Option ℕ → Option ℕ
or_else (Some n) other = Some n
or_else None other = other

abbrev pub or_zero : Option ℕ → ℕ
or_zero (Some n) = n
or_zero None = 0

-- from an index on, the first whose current unit stands on the disk
abbrev pub holder : ℕ → List Location → ℕ → Option ℕ
holder index [] disk = None
holder index (home ∷ homes) disk = cond (home.disk == disk) (Some index) (holder (suc index) homes disk)

-- the target that has the disk
abbrev pub targeted : List Target → ℕ → Option ℕ
targeted [] disk = None
targeted (w ∷ ws) disk = cond (w.disk == disk) (Some w.index) (targeted ws disk)

-- of targets in order, the first on a disk that is taken: by a current unit, or by a target before it
abbrev pub first_held : List Location → List Target → List Target → Option ℕ
first_held homes earlier [] = None
first_held homes earlier (w ∷ ws) = or_else (or_else (holder 0 homes w.disk) (targeted earlier w.disk)) (first_held homes (w ∷ earlier) ws)

-- another transfer's destination stands on the disk
abbrev pub other_destination : List Transfer → ℕ → ℕ → Option ℕ
other_destination [] index disk = None
other_destination (t ∷ ts) index disk = cond ((t.dest.disk == disk) && not (t.index == index)) (Some t.index) (other_destination ts index disk)

-- the destination of a target has the next epoch of its index
abbrev pub grant_of : List ℕ → Target → Grant
grant_of greatest target = record { index = target.index; dest = record { epoch = greatest_at greatest target.index + 1; disk = target.disk } }

abbrev pub grants_of : List ℕ → List Target → List Grant
grants_of greatest [] = []
grants_of greatest (w ∷ ws) = grant_of greatest w ∷ grants_of greatest ws

-- the greatest epoch of an index can't grow
abbrev pub is_spent : List ℕ → ℕ → Bool
is_spent greatest index = greatest_at greatest index == last_epoch

-- a destination of the lock is on a broken disk
abbrev pub has_broken_destination : (ℕ → Bool) → List Transfer → Bool
has_broken_destination broken transfers = any (λ t. broken t.dest.disk) transfers

-- the destination of this index is on a broken disk
abbrev pub is_destination_broken : (ℕ → Bool) → List Transfer → ℕ → Bool
is_destination_broken broken transfers index = any (λ t. (t.index == index) && broken t.dest.disk) transfers

-- an old unit on an unbroken disk whose index isn't in the list
abbrev pub has_unheard : (ℕ → Bool) → List Transfer → List ℕ → Bool
has_unheard broken transfers heard = any (λ t. not (is_in t.index heard) && not (broken t.old.disk)) transfers

-- a mark of the blob was heard of the current unit of the index
abbrev pub is_mark_heard : List Location → List HeardMark → ℕ → ℕ → Bool
is_mark_heard homes marks bid index = any (λ k. (k.bid == bid) && ((k.index == index) && (k.epoch == (home_at homes index).epoch))) marks

-- how many current units have one
abbrev pub mark_count : ℕ → List Location → List HeardMark → ℕ → ℕ
mark_count total homes marks bid = count_below total (is_mark_heard homes marks bid)

abbrev pub lease_tests : Manager → List (Bool × Reply)
lease_tests m = ((is_some m.lock, Reply.Locked (task_of m.lock)) ∷ [])

abbrev pub lease_refusal : Manager → Option Reply
lease_refusal m = first_that_holds (lease_tests m)

abbrev pub lock_tests : (ℕ → Bool) → ℕ → List Target → Manager → List (Bool × Reply)
lock_tests broken time targets m = ((is_some m.lock, Reply.Locked (task_of m.lock))
    ∷ (nat_lt time m.lease_end, Reply.LeaseRuns m.lease_end)
    ∷ (any (λ w. broken w.disk) targets, Reply.DestBroken)
    ∷ (is_some (first_held m.homes [] targets), Reply.DestHeld (or_zero (first_held m.homes [] targets)))
    ∷ (any (λ w. is_spent m.greatest w.index) targets, Reply.EpochSpent)
    ∷ [])

abbrev pub lock_refusal : (ℕ → Bool) → ℕ → List Target → Manager → Option Reply
lock_refusal broken time targets m = first_that_holds (lock_tests broken time targets m)

-- the refusals of a task that hasn't the lock
abbrev pub not_its_lock : ℕ → Manager → List (Bool × Reply) → List (Bool × Reply)
not_its_lock task m others = (is_none m.lock, Reply.NotLocked) ∷ (is_of_other m.lock task, Reply.OtherTask (task_of m.lock)) ∷ others

abbrev pub retarget_holder : Manager → ℕ → ℕ → Option ℕ
retarget_holder m index disk = or_else (holder 0 m.homes disk) (other_destination (transfers_of m.lock) index disk)

abbrev pub retarget_tests : (ℕ → Bool) → ℕ → ℕ → ℕ → Manager → List (Bool × Reply)
retarget_tests broken task index disk m = (not_its_lock task m
    ((is_swapped m.lock, Reply.AlreadySwapped)
    ∷ (not (any (λ t. t.index == index) (transfers_of m.lock)), Reply.NotMoved)
    ∷ (not (is_destination_broken broken (transfers_of m.lock) index), Reply.DestGood)
    ∷ (broken disk, Reply.DestBroken)
    ∷ (is_some (retarget_holder m index disk), Reply.DestHeld (or_zero (retarget_holder m index disk)))
    ∷ (is_spent m.greatest index, Reply.EpochSpent)
    ∷ []))

abbrev pub retarget_refusal : (ℕ → Bool) → ℕ → ℕ → ℕ → Manager → Option Reply
retarget_refusal broken task index disk m = first_that_holds (retarget_tests broken task index disk m)

abbrev pub swap_tests : VolumeShape → (ℕ → Bool) → ℕ → Manager → List (Bool × Reply)
swap_tests shape broken task m = (not_its_lock task m
    ((is_swapped m.lock, Reply.AlreadySwapped)
    ∷ (has_broken_destination broken (transfers_of m.lock), Reply.DestBroken)
    ∷ (has_unheard broken (transfers_of m.lock) m.heard.fenced, Reply.NotFenced)
    ∷ (nat_lt (listed_count shape.total m.homes broken m.heard.listings) shape.sight, Reply.NotListed (listed_count shape.total m.homes broken m.heard.listings))
    ∷ []))

abbrev pub swap_refusal : VolumeShape → (ℕ → Bool) → ℕ → Manager → Option Reply
swap_refusal shape broken task m = first_that_holds (swap_tests shape broken task m)

abbrev pub unlock_tests : (ℕ → Bool) → ℕ → Manager → List (Bool × Reply)
unlock_tests broken task m = (not_its_lock task m
    ((not (is_swapped m.lock), Reply.NotSwapped)
    ∷ (has_unheard broken (transfers_of m.lock) m.heard.released, Reply.NotReleased)
    ∷ []))

abbrev pub unlock_refusal : (ℕ → Bool) → ℕ → Manager → Option Reply
unlock_refusal broken task m = first_that_holds (unlock_tests broken task m)

abbrev pub ask_tests : Bool → ℕ → Manager → List (Bool × Reply)
ask_tests begun bid m = ((not begun, Reply.NotBegun) ∷ (is_in bid m.asked, Reply.Already) ∷ [])

abbrev pub ask_refusal : Bool → ℕ → Manager → Option Reply
ask_refusal begun bid m = first_that_holds (ask_tests begun bid m)

abbrev pub commit_tests : VolumeShape → ℕ → Manager → List (Bool × Reply)
commit_tests shape bid m = ((not (is_in bid m.asked), Reply.NotAsked)
    ∷ (is_in bid m.committed, Reply.Already)
    ∷ (is_some m.lock, Reply.Locked (task_of m.lock))
    ∷ (nat_lt (mark_count shape.total m.homes m.marks bid) shape.sight, Reply.TooFewMarks (mark_count shape.total m.homes m.marks bid))
    ∷ [])

abbrev pub commit_refusal : VolumeShape → ℕ → Manager → Option Reply
commit_refusal shape bid m = first_that_holds (commit_tests shape bid m)

-- In each step below a fault leaves its record in doubt, and every other reply than its own is a refusal, which changes nothing.

abbrev pub GrantsLease : ℕ → Manager → Reply → Manager → Type 0
GrantsLease time m Reply.Fault n = (lease_refusal m ≡ None) × (n ≡ in_doubt (ManagerRecord.Leased (time + lease_length)) m)
GrantsLease time m (Reply.LeaseTo end) n = (lease_refusal m ≡ None) × (end ≡ time + lease_length) × (n ≡ written (ManagerRecord.Leased end) m)
GrantsLease time m reply n = (lease_refusal m ≡ Some reply) × (n ≡ m)

-- the record of a lock that is granted
abbrev pub lock_record : ℕ → List Target → Manager → ManagerRecord
lock_record task targets m = ManagerRecord.Locked task (m.granted + 1) (grants_of m.greatest targets)

abbrev pub Locks : (ℕ → Bool) → ℕ → ℕ → List Target → Manager → Reply → Manager → Type 0
Locks broken time task targets m Reply.Fault n = (lock_refusal broken time targets m ≡ None) × (n ≡ in_doubt (lock_record task targets m) m)
Locks broken time task targets m (Reply.Granted number transfers) n =
    (lock_refusal broken time targets m ≡ None) × (number ≡ m.granted + 1) × (transfers ≡ transfers_of n.lock) × (n ≡ written (lock_record task targets m) m)
Locks broken time task targets m reply n = (lock_refusal broken time targets m ≡ Some reply) × (n ≡ m)

abbrev pub retarget_record : ℕ → ℕ → Manager → ManagerRecord
retarget_record index disk m = ManagerRecord.Retargeted (grant_of m.greatest (record { index = index; disk = disk }))

abbrev pub Retargets : (ℕ → Bool) → ℕ → ℕ → ℕ → Manager → Reply → Manager → Type 0
Retargets broken task index disk m Reply.Fault n = (retarget_refusal broken task index disk m ≡ None) × (n ≡ in_doubt (retarget_record index disk m) m)
Retargets broken task index disk m (Reply.Granted number transfers) n =
    (retarget_refusal broken task index disk m ≡ None) × (has_number m.lock number ≡ true) × (transfers ≡ transfers_of n.lock) × (n ≡ written (retarget_record index disk m) m)
Retargets broken task index disk m reply n = (retarget_refusal broken task index disk m ≡ Some reply) × (n ≡ m)

-- every blob has at every destination what it gets
abbrev pub AreAllSettled : VolumeShape → (ℕ → Bool) → Manager → Type 0
AreAllSettled shape broken m = (bid : ℕ) → is_unsettled shape m.homes broken (transfers_of m.lock) m.heard bid ≡ false

-- the least blob that has not
pub record IsFirstUnsettled (shape : VolumeShape) (broken : ℕ → Bool) (m : Manager) (bid : ℕ) : Type 0 where
  pub unsettled : is_unsettled shape m.homes broken (transfers_of m.lock) m.heard bid ≡ true
  pub first : (other : ℕ) → other < bid → is_unsettled shape m.homes broken (transfers_of m.lock) m.heard other ≡ false

abbrev pub Swaps : VolumeShape → (ℕ → Bool) → ℕ → Manager → Reply → Manager → Type 0
Swaps shape broken task m Reply.Fault n = (swap_refusal shape broken task m ≡ None) × AreAllSettled shape broken m × (n ≡ in_doubt ManagerRecord.Swapped m)
Swaps shape broken task m Reply.Done n = (swap_refusal shape broken task m ≡ None) × AreAllSettled shape broken m × (n ≡ written ManagerRecord.Swapped m)
Swaps shape broken task m (Reply.NotCopied bid) n = (swap_refusal shape broken task m ≡ None) × IsFirstUnsettled shape broken m bid × (n ≡ m)
Swaps shape broken task m reply n = (swap_refusal shape broken task m ≡ Some reply) × (n ≡ m)

abbrev pub Unlocks : (ℕ → Bool) → ℕ → Manager → Reply → Manager → Type 0
Unlocks broken task m Reply.Fault n = (unlock_refusal broken task m ≡ None) × (n ≡ in_doubt ManagerRecord.Unlocked m)
Unlocks broken task m Reply.Done n = (unlock_refusal broken task m ≡ None) × (n ≡ written ManagerRecord.Unlocked m)
Unlocks broken task m reply n = (unlock_refusal broken task m ≡ Some reply) × (n ≡ m)

abbrev pub Asks : Bool → ℕ → Manager → Reply → Manager → Type 0
Asks begun bid m Reply.Fault n = (ask_refusal begun bid m ≡ None) × (n ≡ in_doubt (ManagerRecord.Asked bid) m)
Asks begun bid m Reply.Done n = (ask_refusal begun bid m ≡ None) × (n ≡ written (ManagerRecord.Asked bid) m)
Asks begun bid m reply n = (ask_refusal begun bid m ≡ Some reply) × (n ≡ m)

abbrev pub Commits : VolumeShape → ℕ → Manager → Reply → Manager → Type 0
Commits shape bid m Reply.Fault n = (commit_refusal shape bid m ≡ None) × (n ≡ in_doubt (ManagerRecord.Committed bid) m)
Commits shape bid m Reply.Done n = (commit_refusal shape bid m ≡ None) × (n ≡ written (ManagerRecord.Committed bid) m)
Commits shape bid m reply n = (commit_refusal shape bid m ≡ Some reply) × (n ≡ m)

-- these blobs' rows at the destination of an index
abbrev pub rows_at : ℕ → List ℕ → List HeardRow
rows_at index [] = []
rows_at index (bid ∷ bids) = record { index = index; bid = bid } ∷ rows_at index bids

-- a listing is kept, and counts as rows where the unit is a destination
abbrev pub hear_listing : List Transfer → Place → Shown → Heard → Heard
hear_listing transfers place shown heard = record heard {
  listings = record { index = place.index; epoch = place.epoch; shown = shown } ∷ heard.listings;
  live = cond (is_destination transfers place) (rows_at place.index shown.live ++ heard.live) heard.live;
  marked = cond (is_destination transfers place) (rows_at place.index shown.marked ++ heard.marked) heard.marked;
}

-- a live row at a destination
abbrev pub hear_live : List Transfer → Place → ℕ → Heard → Heard
hear_live transfers place bid heard = record heard { live = cond (is_destination transfers place) (record { index = place.index; bid = bid } ∷ heard.live) heard.live }

-- a marked row at a destination
abbrev pub hear_marked : List Transfer → Place → ℕ → Heard → Heard
hear_marked transfers place bid heard = record heard { marked = cond (is_destination transfers place) (record { index = place.index; bid = bid } ∷ heard.marked) heard.marked }

-- what the manager hears by an answer
abbrev pub hear : Request → Answer → Manager → Manager
hear (Request.List place number) (Answer.Listing said shown) m =
    record m { heard = cond (has_number m.lock number) (hear_listing (transfers_of m.lock) place shown m.heard) m.heard }
hear (Request.Copy place bid) Answer.Done m = record m { heard = hear_live (transfers_of m.lock) place bid m.heard }
hear (Request.Copy place bid) Answer.Already m = record m { heard = hear_live (transfers_of m.lock) place bid m.heard }
hear (Request.Copy place bid) Answer.Deleted m = record m { heard = hear_marked (transfers_of m.lock) place bid m.heard }
hear (Request.Mark place bid) Answer.Done m =
    record m { heard = hear_marked (transfers_of m.lock) place bid m.heard; marks = record { bid = bid; index = place.index; epoch = place.epoch } ∷ m.marks }
hear (Request.Mark place bid) Answer.Already m =
    record m { heard = hear_marked (transfers_of m.lock) place bid m.heard; marks = record { bid = bid; index = place.index; epoch = place.epoch } ∷ m.marks }
hear (Request.Fence place number) Answer.Done m =
    record m { heard = record (m.heard) { fenced = cond (has_number m.lock number && is_old (transfers_of m.lock) place) (place.index ∷ m.heard.fenced) m.heard.fenced } }
hear (Request.Release place) Answer.Done m =
    record m { heard = record (m.heard) { released = cond (is_old_there (transfers_of m.lock) place) (place.index ∷ m.heard.released) m.heard.released } }
hear (Request.Release place) (Answer.Stale have) m =
    record m { heard = record (m.heard) { released = cond (is_old_there (transfers_of m.lock) place) (place.index ∷ m.heard.released) m.heard.released } }
hear request answer m = m
