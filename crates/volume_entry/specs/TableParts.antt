-- The table of a volume as the protocol sees it, and what is tested of records that it is to take.
use Rattle.std.specs.Prelude.{ℕ, ◌≡◌, ◌+◌, ◌^◌, ◌<◌, ◌≤◌, Bool, true, false, List, [], ◌∷◌, None}
use Rattle.code_mode.specs.VolumeShape.{VolumeShape, volume_shape}
use Rattle.unit_id.specs.Lists.{IsIn, is_in}
use Rattle.unit_id.specs.Place.{Location}
use Rattle.volume_entry.specs.Manager.{Grant, Transfer, IsNextHome, IsLegal, Manager, ManagerRecord, nothing_heard, transfers_to, written}
use Rattle.volume_entry.specs.declared.shape.Shape.{Shape}
use Rattle.volume_entry.specs.declared.table.Table.{Table}

-- nothing was heard, and the log is started
abbrev pub part_of : Table → Manager
part_of t = record {
  homes = t.homes.items;
  greatest = t.greatest.items;
  version = t.version;
  lease_end = t.lease_end;
  granted = t.granted;
  lock = t.lock;
  heard = nothing_heard;
  asked = t.asked.bids;
  committed = t.committed.bids;
  marks = [];
  is_shut = false;
  doubt = None;
}

-- what is asked of a table that is to take a record: a blob is asked for and settled once, and versions don't run out
abbrev pub CanTake : Manager → ManagerRecord → Type 0
CanTake m (ManagerRecord.Asked bid) = is_in bid m.asked ≡ false
CanTake m (ManagerRecord.Committed bid) = is_in bid m.committed ≡ false
CanTake m ManagerRecord.Swapped = m.version + 1 < 2 ^ 64
CanTake m _ = Unit {0}

-- what a table was given before it is to take a record: room for a blob, or the transfers of a lock
abbrev pub IsPrepared : ManagerRecord → Table → List Transfer → Type 0
IsPrepared (ManagerRecord.Asked bid) table transfers = 1 ≤ table.asked.spare
IsPrepared (ManagerRecord.Committed bid) table transfers = 1 ≤ table.committed.spare
IsPrepared (ManagerRecord.Locked task number grants) table transfers = transfers ≡ transfers_to grants table.homes.items
IsPrepared _ table transfers = Unit {0}

-- the numbers of a volume as the code has them
abbrev pub shape_of : Shape → VolumeShape
shape_of shape = volume_shape shape.mode shape.disks

-- what a test says
abbrev pub Tells : Bool → Type 0 → Type 0
Tells true P = P
Tells false P = P → ⊥

-- every grant gives its index a next home
abbrev pub AreNextHomes : VolumeShape → List Location → List ℕ → List Grant → Type 0
AreNextHomes shape homes greatest grants = (t : Grant) → IsIn t grants → IsNextHome shape homes greatest t

-- the grants behind one are of greater indexes and other disks
abbrev pub IsBefore : Grant → List Grant → Type 0
IsBefore t ts = (u : Grant) → IsIn u ts → (t.index < u.index) × (t.dest.disk ≡ u.dest.disk → ⊥)

-- indexes ascend, and no disk is granted twice
abbrev pub AreApart : List Grant → Type 0
AreApart [] = Unit {0}
AreApart (t ∷ ts) = IsBefore t ts × AreApart ts

-- no other transfer leads to the disk of the grant
abbrev pub IsFreeOfOthers : List Transfer → Grant → Type 0
IsFreeOfOthers transfers grant = (t : Transfer) → IsIn t transfers → t.dest.disk ≡ grant.dest.disk → t.index ≡ grant.index

-- a record was taken where it is legal behind those of the old part, and else nothing changes
abbrev pub TakesLegal : VolumeShape → ManagerRecord → Manager → Manager → Bool → Type 0
TakesLegal shape item old new true = IsLegal shape old item × (new ≡ written item old)
TakesLegal shape item old new false = (IsLegal shape old item → ⊥) × (new ≡ old)
