-- The manager's part of a volume: homes, lease, lock, deletes, and what was heard; its records, and what each of them changes.
use Rattle.std.specs.Prelude.{ℕ, suc, ◌≡◌, ◌+◌, ◌<◌, ◌≤◌, Bool, true, false, cond, not, ◌&&◌, ◌==◌, List, [], ◌∷◌, length, get_or, map, filter, Option, Some, None, is_some}
use Rattle.unit_id.specs.Lists.{IsIn, any, is_in}
use Rattle.unit_id.specs.Place.{Location, Place, at_home}
use Rattle.unit_id.specs.Shown.{Shown}
use Rattle.code_mode.specs.VolumeShape.{VolumeShape, lease_length, last_time, last_epoch}

-- one unit that a lock moves: from its old home to its destination
pub record Transfer : Type 0 where
  pub index : ℕ
  pub old : Location
  pub dest : Location

-- a lock of a task, with its transfers in ascending order of index
pub record Lock : Type 0 where
  pub task : ℕ
  pub number : ℕ
  pub transfers : List Transfer
  pub is_swapped : Bool

-- a listing of a unit
pub record HeardListing : Type 0 where
  pub index : ℕ
  pub epoch : ℕ
  pub shown : Shown

-- a row of a blob at the destination of an index
pub record HeardRow : Type 0 where
  pub index : ℕ
  pub bid : ℕ

-- What was heard under the lock: listings, the last heard first; rows at destinations; indexes whose old units are fenced, or released.
pub record Heard : Type 0 where
  pub listings : List HeardListing
  pub live : List HeardRow
  pub marked : List HeardRow
  pub fenced : List ℕ
  pub released : List ℕ

abbrev pub nothing_heard : Heard
nothing_heard = record { listings = []; live = []; marked = []; fenced = []; released = [] }

-- a mark of a blob at a unit
pub record HeardMark : Type 0 where
  pub bid : ℕ
  pub index : ℕ
  pub epoch : ℕ

-- an index and its new home
pub record Grant : Type 0 where
  pub index : ℕ
  pub dest : Location

pub data ManagerRecord : Type 0 where
  Made : List Location → ManagerRecord
  Leased : ℕ → ManagerRecord
  Locked : ℕ → ℕ → List Grant → ManagerRecord
  Retargeted : Grant → ManagerRecord
  Swapped : ManagerRecord
  Unlocked : ManagerRecord
  Asked : ℕ → ManagerRecord
  Committed : ℕ → ManagerRecord

-- By index, homes and the greatest epochs given; deletes, the latest first; and of the log whether it is shut, with which record in doubt.
pub record Manager : Type 0 where
  pub homes : List Location
  pub greatest : List ℕ
  pub version : ℕ
  pub lease_end : ℕ
  pub granted : ℕ
  pub lock : Option Lock
  pub heard : Heard
  pub asked : List ℕ
  pub committed : List ℕ
  pub marks : List HeardMark
  pub is_shut : Bool
  pub doubt : Option ManagerRecord

-- the home of an index
abbrev pub home_at : List Location → ℕ → Location
home_at homes index = get_or homes index (record { epoch = 0; disk = 0 })

-- the current unit of an index
abbrev pub current : List Location → ℕ → Place
current homes index = at_home index (home_at homes index)

-- the greatest epoch given of an index
abbrev pub greatest_at : List ℕ → ℕ → ℕ
greatest_at greatest index = get_or greatest index 0

-- what a lock moves; nothing without a lock
abbrev pub transfers_of : Option Lock → List Transfer
transfers_of None = []
transfers_of (Some lock) = lock.transfers

abbrev pub is_swapped : Option Lock → Bool
is_swapped None = false
is_swapped (Some lock) = lock.is_swapped

-- the number of the lock is this
abbrev pub has_number : Option Lock → ℕ → Bool
has_number None number = false
has_number (Some lock) number = lock.number == number

-- some transfer leads to this unit
abbrev pub is_destination : List Transfer → Place → Bool
is_destination transfers place = any (λ t. (t.index == place.index) && (t.dest.epoch == place.epoch)) transfers

-- some transfer leads away from this unit
abbrev pub is_old : List Transfer → Place → Bool
is_old transfers place = any (λ t. (t.index == place.index) && (t.old.epoch == place.epoch)) transfers

-- .. at the very disk on which it stands
abbrev pub is_old_there : List Transfer → Place → Bool
is_old_there transfers place = any (λ t. ((t.index == place.index) && (t.old.epoch == place.epoch)) && (t.old.disk == place.disk)) transfers

-- .. at the very disk on which it is to stand
abbrev pub is_destination_there : List Transfer → Place → Bool
is_destination_there transfers place = any (λ t. ((t.index == place.index) && (t.dest.epoch == place.epoch)) && (t.dest.disk == place.disk)) transfers

-- the unit is the current one of its index
abbrev pub is_current : List Location → Place → Bool
is_current homes place = (home_at homes place.index).epoch == place.epoch

-- the transfers that a lock of these grants makes
abbrev pub transfers_to : List Grant → List Location → List Transfer
transfers_to [] homes = []
transfers_to (t ∷ ts) homes = record { index = t.index; old = home_at homes t.index; dest = t.dest } ∷ transfers_to ts homes

-- the greatest epoch of an index, with these grants
abbrev pub raised_one : List Grant → ℕ → ℕ → ℕ
raised_one [] index epoch = epoch
raised_one (t ∷ ts) index epoch = cond (t.index == index) t.dest.epoch (raised_one ts index epoch)

-- the greatest epochs from an index on, with these grants
abbrev pub raised : ℕ → List Grant → List ℕ → List ℕ
raised index grants [] = []
raised index grants (epoch ∷ epochs) = raised_one grants index epoch ∷ raised (suc index) grants epochs

-- the home of an index, after these transfers
abbrev pub moved_one : List Transfer → ℕ → Location → Location
moved_one [] index home = home
moved_one (t ∷ ts) index home = cond (t.index == index) t.dest (moved_one ts index home)

-- the homes from an index on, after these transfers
abbrev pub moved : ℕ → List Transfer → List Location → List Location
moved index transfers [] = []
moved index transfers (home ∷ homes) = moved_one transfers index home ∷ moved (suc index) transfers homes

-- the transfers with a new destination
abbrev pub redirected : Grant → List Transfer → List Transfer
redirected grant [] = []
redirected grant (t ∷ ts) = record { index = t.index; old = t.old; dest = cond (t.index == grant.index) grant.dest t.dest } ∷ redirected grant ts

abbrev pub redirected_lock : Grant → Option Lock → Option Lock
redirected_lock grant None = None
redirected_lock grant (Some lock) = Some (record lock { transfers = redirected grant lock.transfers })

-- rows heard at the destination of this index are forgotten
abbrev pub without_rows : ℕ → List HeardRow → List HeardRow
without_rows index rows = filter (λ row. not (row.index == index)) rows

abbrev pub swapped_lock : Option Lock → Option Lock
swapped_lock None = None
swapped_lock (Some lock) = Some (record lock { is_swapped = true })

-- the manager's part once a record is written behind those before it
abbrev pub written : ManagerRecord → Manager → Manager
written (ManagerRecord.Made homes) m = m
written (ManagerRecord.Leased end) m = record m { lease_end = end }
written (ManagerRecord.Locked task number grants) m = record m {
  greatest = raised 0 grants m.greatest;
  granted = number;
  lock = Some (record { task = task; number = number; transfers = transfers_to grants m.homes; is_swapped = false });
  heard = nothing_heard;
}
written (ManagerRecord.Retargeted grant) m = record m {
  greatest = raised 0 (grant ∷ []) m.greatest;
  lock = redirected_lock grant m.lock;
  heard = record (m.heard) { live = without_rows grant.index m.heard.live; marked = without_rows grant.index m.heard.marked };
}
written ManagerRecord.Swapped m = record m { homes = moved 0 (transfers_of m.lock) m.homes; version = m.version + 1; lock = swapped_lock m.lock }
written ManagerRecord.Unlocked m = record m { lock = None; heard = nothing_heard }
written (ManagerRecord.Asked bid) m = record m { asked = bid ∷ m.asked }
written (ManagerRecord.Committed bid) m = record m { committed = bid ∷ m.committed }

-- a record whose writing failed may stand in the log or not; the log is shut
abbrev pub in_doubt : ManagerRecord → Manager → Manager
in_doubt item m = record m { is_shut = true; doubt = Some item }

-- what was heard is forgotten
abbrev pub forgetful : Manager → Manager
forgetful m = record m { heard = nothing_heard; marks = [] }

-- the log is started, with no record in doubt
abbrev pub settled : Manager → Manager
settled m = record m { is_shut = false; doubt = None }

-- a volume as made
abbrev pub fresh_manager : List Location → Manager
fresh_manager homes = record {
  homes = homes;
  greatest = map (λ (home : Location). home.epoch) homes;
  version = 1;
  lease_end = 0;
  granted = 0;
  lock = None;
  heard = nothing_heard;
  asked = [];
  committed = [];
  marks = [];
  is_shut = false;
  doubt = None;
}

-- indexes strictly ascend
abbrev pub AreInOrder : List Grant → Type 0
AreInOrder [] = Unit {0}
AreInOrder (t ∷ ts) = ((u : Grant) → IsIn u ts → t.index < u.index) × AreInOrder ts

-- no current unit stands on the disk
abbrev pub IsFree : List Location → ℕ → Type 0
IsFree homes disk = (index : ℕ) → index < length homes → (home_at homes index).disk ≡ disk → ⊥

-- a disk that the volume may use
pub record IsDisk (shape : VolumeShape) (disk : ℕ) : Type 0 where
  pub first : 1 ≤ disk
  pub last : disk ≤ shape.disks

-- the next epoch of an index of this volume, on a disk without a current unit
pub record IsNextHome (shape : VolumeShape) (homes : List Location) (greatest : List ℕ) (grant : Grant) : Type 0 where
  pub index : grant.index < shape.total
  pub epoch : grant.dest.epoch ≡ greatest_at greatest grant.index + 1
  pub last : grant.dest.epoch ≤ last_epoch
  pub disk : IsDisk shape grant.dest.disk
  pub free : IsFree homes grant.dest.disk

-- a lock that may be granted, but for the clock and broken disks
pub record IsLegalLock (shape : VolumeShape) (present : List Location) (greatest : List ℕ) (lease_end granted : ℕ) (lock : Option Lock) (number : ℕ) (grants : List Grant) : Type 0 where
  pub unlocked : lock ≡ None
  pub in_time : lease_end ≤ last_time
  pub next : number ≡ granted + 1
  pub some : 1 ≤ length grants
  pub most : length grants + shape.data_count ≤ shape.quorum
  pub order : AreInOrder grants
  pub homes : (t : Grant) → IsIn t grants → IsNextHome shape present greatest t
  pub apart : (t u : Grant) → IsIn t grants → IsIn u grants → t.dest.disk ≡ u.dest.disk → t.index ≡ u.index

-- a new destination that may be granted
pub record IsLegalRetarget (shape : VolumeShape) (present : List Location) (greatest : List ℕ) (lock : Option Lock) (grant : Grant) : Type 0 where
  pub locked : is_some lock ≡ true
  pub unswapped : is_swapped lock ≡ false
  pub moves : any (λ t. t.index == grant.index) (transfers_of lock) ≡ true
  pub home : IsNextHome shape present greatest grant
  pub apart : (t : Transfer) → IsIn t (transfers_of lock) → t.dest.disk ≡ grant.dest.disk → t.index ≡ grant.index

-- a blob number
pub record IsBid (bid : ℕ) : Type 0 where
  pub first : 1 ≤ bid
  pub last : bid ≤ last_time

-- A record is legal behind the records that gave this manager's part, where the step that writes it is allowed by them: the clock,
-- broken disks, which blobs were begun, and what was heard are left aside.
abbrev pub IsLegal : VolumeShape → Manager → ManagerRecord → Type 0
IsLegal shape m (ManagerRecord.Made homes) = ⊥
IsLegal shape m (ManagerRecord.Leased end) = (m.lock ≡ None) × (end ≤ last_time + lease_length)
IsLegal shape m (ManagerRecord.Locked task number grants) = IsLegalLock shape m.homes m.greatest m.lease_end m.granted m.lock number grants
IsLegal shape m (ManagerRecord.Retargeted grant) = IsLegalRetarget shape m.homes m.greatest m.lock grant
IsLegal shape m ManagerRecord.Swapped = (is_some m.lock ≡ true) × (is_swapped m.lock ≡ false)
IsLegal shape m ManagerRecord.Unlocked = is_swapped m.lock ≡ true
IsLegal shape m (ManagerRecord.Asked bid) = IsBid bid × (is_in bid m.asked ≡ false)
IsLegal shape m (ManagerRecord.Committed bid) = IsBid bid × (is_in bid m.asked ≡ true) × (is_in bid m.committed ≡ false) × (m.lock ≡ None)

-- the homes with which a volume may be made
pub record AreFirstHomes (shape : VolumeShape) (homes : List Location) : Type 0 where
  pub count : length homes ≡ shape.total
  pub epochs : (i : ℕ) → i < shape.total → (1 ≤ (home_at homes i).epoch) × ((home_at homes i).epoch ≤ last_epoch)
  pub disks : (i : ℕ) → i < shape.total → IsDisk shape (home_at homes i).disk
  pub apart : (i j : ℕ) → i < shape.total → j < shape.total → (home_at homes i).disk ≡ (home_at homes j).disk → i ≡ j

-- from one manager's part these records, each legal, lead to the other
abbrev pub LeadsBy : VolumeShape → Manager → List ManagerRecord → Manager → Type 0
LeadsBy shape m [] n = n ≡ m
LeadsBy shape m (item ∷ items) n = IsLegal shape m item × LeadsBy shape (written item m) items n

-- a log of a volume: the record of its making, and legal ones behind it
abbrev pub IsLog : VolumeShape → List ManagerRecord → Manager → Type 0
IsLog shape [] m = ⊥
IsLog shape (ManagerRecord.Made homes ∷ items) m = AreFirstHomes shape homes × LeadsBy shape (fresh_manager homes) items m
IsLog shape (item ∷ items) m = ⊥
