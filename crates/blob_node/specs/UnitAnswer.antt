-- The answers of a unit to requests, and what they leave.
use Rattle.std.specs.Prelude.{ℕ, ◌≡◌, ◌<◌, ◌≤◌, ◌⊎◌, Bool, true, false, ◌==◌, List, [], ◌∷◌, Option, Some, None}
use Rattle.unit_id.specs.Lists.{IsIn, is_in}
use Rattle.unit_id.specs.Place.{Place}
use Rattle.unit_id.specs.Request.{Request, Answer}
use Rattle.unit_id.specs.Shown.{Shown}
use Rattle.blob_node.specs.Units.{RowState, UnitRecord, Units, is_live, is_deleted, with_at, with_record, with_unit}

-- What a station sees of the unit that a request names: whether the station is broken, which epochs of the unit's index were
-- made on it, and the unit's chunk.
pub record UnitView : Type 0 where
  pub is_broken : Bool
  pub epoch : ℕ
  pub was_made : ℕ → Bool
  pub row : ℕ → Option RowState
  pub fence : Option ℕ
  pub is_released : Bool
  pub is_shut : Bool
  pub doubt : Option UnitRecord

abbrev pub view_at : (ℕ → Bool) → Units → Place → UnitView
view_at broken units place = record {
  is_broken = broken place.disk;
  epoch = place.epoch;
  was_made = λ epoch. units.is_made (record { index = place.index; epoch = epoch; disk = place.disk });
  row = units.row place;
  fence = units.fence place;
  is_released = units.is_released place;
  is_shut = units.is_shut place;
  doubt = units.doubt place;
}

-- What an answer leaves: nothing new, a unit made, a chunk that is started, in which the request's record is written, or stands in doubt.
pub data Effect : Type 0 where
  Nothing : Effect
  Made : Effect
  Started : Effect
  Wrote : Effect
  Doubted : Effect

-- the record that a request has written
abbrev pub record_of : Request → Option UnitRecord
record_of (Request.Create place) = None
record_of (Request.Fence place lock) = Some (UnitRecord.Fence lock)
record_of (Request.Put place bid) = Some (UnitRecord.Shard bid)
record_of (Request.Read place bid) = None
record_of (Request.List place lock) = None
record_of (Request.Copy place bid) = Some (UnitRecord.Shard bid)
record_of (Request.Mark place bid) = Some (UnitRecord.Mark bid)
record_of (Request.Free place bid) = Some (UnitRecord.Free bid)
record_of (Request.Release place) = Some UnitRecord.Release

-- the chunk at this place is started
abbrev pub started : Place → Units → Units
started place units = record units { is_shut = with_at place false units.is_shut }

-- the units with this record written, if there is one
abbrev pub with_written : Place → Option UnitRecord → Units → Units
with_written place None units = units
with_written place (Some item) units = with_record place item units

-- the units after an answer to this request with this effect
abbrev pub units_after : Place → Request → Effect → Units → Units
units_after place request Effect.Nothing units = units
units_after place request Effect.Made units = with_unit place units
units_after place request Effect.Started units = started place units
units_after place request Effect.Wrote units = with_written place (record_of request) (started place units)
units_after place request Effect.Doubted units =
    record units { is_shut = with_at place true units.is_shut; doubt = with_at place (record_of request) units.doubt }

-- the chunk at this place is started, with no record in doubt
abbrev pub settled_at : Place → Units → Units
settled_at place units = record units { is_shut = with_at place false units.is_shut; doubt = with_at place None units.doubt }

-- the units once a shut chunk is started, where the record in doubt was found or not
abbrev pub settled : Place → Bool → Units → Units
settled place true units = with_written place (units.doubt place) (settled_at place units)
settled place false units = settled_at place units

-- the numbers stand in ascending order
abbrev pub AreAscending : List ℕ → Type 0
AreAscending [] = Unit {0}
AreAscending (first ∷ rest) = ((n : ℕ) → IsIn n rest → first < n) × AreAscending rest

-- the listing shows exactly these rows
pub record IsListing (row : ℕ → Option RowState) (listing : Shown) : Type 0 where
  pub live_order : AreAscending listing.live
  pub marked_order : AreAscending listing.marked
  pub live : (bid : ℕ) → is_in bid listing.live ≡ is_live (row bid)
  pub marked : (bid : ℕ) → is_in bid listing.marked ≡ is_deleted (row bid)

-- the unit's time here is over: it is released, or the same index has a later unit on this disk; and this is the latest epoch of the
-- index on this disk
pub record IsStale (view : UnitView) (have : ℕ) : Type 0 where
  pub unbroken : view.is_broken ≡ false
  pub made : view.was_made have ≡ true
  pub greatest : (epoch : ℕ) → view.was_made epoch ≡ true → epoch ≤ have
  pub outlived : (view.is_released ≡ true) ⊎ (view.epoch < have)

-- the station isn't broken, and the unit neither released nor followed there by one with a greater epoch
pub record IsServed (view : UnitView) : Type 0 where
  pub unbroken : view.is_broken ≡ false
  pub unreleased : view.is_released ≡ false
  pub newest : (epoch : ℕ) → view.was_made epoch ≡ true → epoch ≤ view.epoch

-- the unit is held, and its chunk is started, with no record in doubt
pub record IsAtWork (view : UnitView) : Type 0 where
  pub held : view.was_made view.epoch ≡ true
  pub settled : view.doubt ≡ None

-- to a shard
abbrev pub TakesShard : UnitView → ℕ → Answer → Effect → Type 0
TakesShard view bid (Answer.Fenced lock) Effect.Started = view.fence ≡ Some lock
TakesShard view bid Answer.Already Effect.Started = (view.fence ≡ None) × (view.row bid ≡ Some RowState.Live)
TakesShard view bid Answer.Deleted Effect.Started = (view.fence ≡ None) × (is_deleted (view.row bid) ≡ true)
TakesShard view bid Answer.Done Effect.Wrote = (view.fence ≡ None) × (view.row bid ≡ None)
TakesShard view bid (Answer.Full end) Effect.Started = (view.fence ≡ None) × (view.row bid ≡ None)
TakesShard view bid Answer.Fault Effect.Doubted = (view.fence ≡ None) × (view.row bid ≡ None)
TakesShard view bid _ _ = ⊥

-- to a mark
abbrev pub TakesMark : UnitView → ℕ → Answer → Effect → Type 0
TakesMark view bid (Answer.Fenced lock) Effect.Started = view.fence ≡ Some lock
TakesMark view bid Answer.Already Effect.Started = (view.fence ≡ None) × (is_deleted (view.row bid) ≡ true)
TakesMark view bid Answer.Done Effect.Wrote = (view.fence ≡ None) × (is_deleted (view.row bid) ≡ false)
TakesMark view bid (Answer.Full end) Effect.Started = (view.fence ≡ None) × (is_deleted (view.row bid) ≡ false)
TakesMark view bid Answer.Fault Effect.Doubted = (view.fence ≡ None) × (is_deleted (view.row bid) ≡ false)
TakesMark view bid _ _ = ⊥

-- to a free
abbrev pub Frees : UnitView → ℕ → Answer → Effect → Type 0
Frees view bid (Answer.Fenced lock) Effect.Started = view.fence ≡ Some lock
Frees view bid Answer.NotMarked Effect.Started = (view.fence ≡ None) × (is_deleted (view.row bid) ≡ false)
Frees view bid Answer.Already Effect.Started = (view.fence ≡ None) × (view.row bid ≡ Some RowState.Gone)
Frees view bid Answer.Done Effect.Wrote = (view.fence ≡ None) × (view.row bid ≡ Some RowState.Marked)
Frees view bid (Answer.Full end) Effect.Started = (view.fence ≡ None) × (view.row bid ≡ Some RowState.Marked)
Frees view bid Answer.Fault Effect.Doubted = (view.fence ≡ None) × (view.row bid ≡ Some RowState.Marked)
Frees view bid _ _ = ⊥

-- to a read
abbrev pub Reads : UnitView → ℕ → Answer → Effect → Type 0
Reads view bid Answer.Live Effect.Started = view.row bid ≡ Some RowState.Live
Reads view bid Answer.Marked Effect.Started = view.row bid ≡ Some RowState.Marked
Reads view bid Answer.Gone Effect.Started = view.row bid ≡ Some RowState.Gone
Reads view bid Answer.Absent Effect.Started = view.row bid ≡ None
Reads view bid Answer.Fault Effect.Started = Unit {0}
Reads view bid _ _ = ⊥

-- to a list under a lock
abbrev pub Lists : UnitView → ℕ → Answer → Effect → Type 0
Lists view lock (Answer.Listing number listing) Effect.Started = (number ≡ lock) × IsListing view.row listing
Lists view lock _ _ = ⊥

-- to a fence: the same number is taken again, without a record
abbrev pub Fences : UnitView → ℕ → Answer → Effect → Type 0
Fences view lock Answer.Done Effect.Wrote = view.fence ≡ None
Fences view lock Answer.Done Effect.Started = view.fence ≡ Some lock
Fences view lock (Answer.Fenced kept) Effect.Started = (view.fence ≡ Some kept) × (kept == lock ≡ false)
Fences view lock (Answer.Full end) Effect.Started = view.fence ≡ None
Fences view lock Answer.Fault Effect.Doubted = view.fence ≡ None
Fences view lock _ _ = ⊥

-- to a release, which drops every row
abbrev pub Releases : Answer → Effect → Type 0
Releases Answer.Done Effect.Wrote = Unit {0}
Releases (Answer.Full end) Effect.Started = Unit {0}
Releases Answer.Fault Effect.Doubted = Unit {0}
Releases _ _ = ⊥

-- of a unit that is at work
abbrev pub Works : UnitView → Request → Answer → Effect → Type 0
Works view (Request.Create place) answer effect = ⊥
Works view (Request.Fence place lock) answer effect = Fences view lock answer effect
Works view (Request.Put place bid) answer effect = TakesShard view bid answer effect
Works view (Request.Read place bid) answer effect = Reads view bid answer effect
Works view (Request.List place lock) answer effect = Lists view lock answer effect
Works view (Request.Copy place bid) answer effect = TakesShard view bid answer effect
Works view (Request.Mark place bid) answer effect = TakesMark view bid answer effect
Works view (Request.Free place bid) answer effect = Frees view bid answer effect
Works view (Request.Release place) answer effect = Releases answer effect

-- to a create
abbrev pub Creates : UnitView → Answer → Effect → Type 0
Creates view Answer.Already Effect.Nothing = view.was_made view.epoch ≡ true
Creates view Answer.Done Effect.Made = view.was_made view.epoch ≡ false
Creates view Answer.Fault Effect.Nothing = view.was_made view.epoch ≡ false
Creates view _ _ = ⊥

-- To any other request: a unit that isn't held has no answer of its own, and a shut chunk that doesn't start gives a fault.
abbrev pub Holds : UnitView → Request → Answer → Effect → Type 0
Holds view request Answer.NoUnit Effect.Nothing = view.was_made view.epoch ≡ false
Holds view request Answer.Fault Effect.Nothing = (view.was_made view.epoch ≡ true) × (view.is_shut ≡ true)
Holds view request answer effect = IsAtWork view × Works view request answer effect

-- of a unit that is neither broken nor stale
abbrev pub Serves : UnitView → Request → Answer → Effect → Type 0
Serves view (Request.Create place) answer effect = Creates view answer effect
Serves view request answer effect = Holds view request answer effect

-- the answer to a request and its effect, tried from the top
abbrev pub Answers : UnitView → Request → Answer → Effect → Type 0
Answers view request Answer.Broken Effect.Nothing = view.is_broken ≡ true
Answers view request (Answer.Stale have) Effect.Nothing = IsStale view have
Answers view request answer effect = IsServed view × Serves view request answer effect

-- the effect writes a record, or leaves it in doubt
abbrev pub writes : Effect → Bool
writes Effect.Nothing = false
writes Effect.Made = false
writes Effect.Started = false
writes Effect.Wrote = true
writes Effect.Doubted = true

-- a request that writes a row
abbrev pub is_row_request : Request → Bool
is_row_request (Request.Put place bid) = true
is_row_request (Request.Copy place bid) = true
is_row_request (Request.Mark place bid) = true
is_row_request (Request.Free place bid) = true
is_row_request request = false
