-- What is kept of all units: which were made where, their rows, fences and releases, and what is in doubt.
use Rattle.std.specs.Prelude.{ℕ, Bool, true, false, cond, ◌&&◌, ◌==◌, Option, Some, None}
use Rattle.unit_id.specs.Place.{Place, is_place}

pub data RowState : Type 0 where
  Live : RowState
  Marked : RowState
  Gone : RowState

-- a record of a unit's chunk, without its bytes
pub data UnitRecord : Type 0 where
  Shard : ℕ → UnitRecord
  Mark : ℕ → UnitRecord
  Free : ℕ → UnitRecord
  Fence : ℕ → UnitRecord
  Release : UnitRecord

-- All units of a volume, by place: which exist, their rows by blob, the lock number of a fence, which are released, which chunks are
-- shut, and with which record in doubt. Each is a look-up of its own, so that what a move leaves alone stays by computing.
pub record Units : Type 0 where
  pub is_made : Place → Bool
  pub row : Place → ℕ → Option RowState
  pub fence : Place → Option ℕ
  pub is_released : Place → Bool
  pub is_shut : Place → Bool
  pub doubt : Place → Option UnitRecord

abbrev pub is_live : Option RowState → Bool
is_live None = false
is_live (Some RowState.Live) = true
is_live (Some RowState.Marked) = false
is_live (Some RowState.Gone) = false

-- marked or gone
abbrev pub is_deleted : Option RowState → Bool
is_deleted None = false
is_deleted (Some RowState.Live) = false
is_deleted (Some RowState.Marked) = true
is_deleted (Some RowState.Gone) = true

abbrev pub has_row : Option RowState → Bool
has_row None = false
has_row (Some row) = true

-- a look-up with a new value at one place
abbrev pub with_at : {A : Type 0} → Place → A → (Place → A) → Place → A
with_at place new old other = cond (is_place other place) new (old other)

-- rows with a new row of one blob at one place
abbrev pub with_row : Place → ℕ → Option RowState → (Place → ℕ → Option RowState) → Place → ℕ → Option RowState
with_row place bid new old other blob = cond (is_place other place && (blob == bid)) new (old other blob)

-- a shard is taken where the blob has no row
abbrev pub after_shard : Option RowState → Option RowState
after_shard None = Some RowState.Live
after_shard (Some row) = Some row

-- a mark is set on a live row, and where there is none
abbrev pub after_mark : Option RowState → Option RowState
after_mark None = Some RowState.Marked
after_mark (Some RowState.Live) = Some RowState.Marked
after_mark (Some RowState.Marked) = Some RowState.Marked
after_mark (Some RowState.Gone) = Some RowState.Gone

-- a marked row alone goes
abbrev pub after_free : Option RowState → Option RowState
after_free None = None
after_free (Some RowState.Live) = Some RowState.Live
after_free (Some RowState.Marked) = Some RowState.Gone
after_free (Some RowState.Gone) = Some RowState.Gone

-- the first fence stays
abbrev pub after_fence : ℕ → Option ℕ → Option ℕ
after_fence lock None = Some lock
after_fence lock (Some first) = Some first

-- the units when this record of one of them is written
abbrev pub with_record : Place → UnitRecord → Units → Units
with_record place (UnitRecord.Shard bid) units = record units { row = with_row place bid (after_shard (units.row place bid)) units.row }
with_record place (UnitRecord.Mark bid) units = record units { row = with_row place bid (after_mark (units.row place bid)) units.row }
with_record place (UnitRecord.Free bid) units = record units { row = with_row place bid (after_free (units.row place bid)) units.row }
with_record place (UnitRecord.Fence lock) units = record units { fence = with_at place (after_fence lock (units.fence place)) units.fence }
with_record place UnitRecord.Release units = record units {
  row = with_at place (λ bid. None) units.row;
  fence = with_at place None units.fence;
  is_released = with_at place true units.is_released;
}

-- the units with a new one, which has no rows
abbrev pub with_unit : Place → Units → Units
with_unit place units = record units {
  is_made = with_at place true units.is_made;
  row = with_at place (λ bid. None) units.row;
  fence = with_at place None units.fence;
  is_released = with_at place false units.is_released;
  is_shut = with_at place false units.is_shut;
  doubt = with_at place None units.doubt;
}

-- a row's record: a shard, a mark or a free
abbrev pub is_row_record : Option UnitRecord → Bool
is_row_record (Some (UnitRecord.Shard b)) = true
is_row_record (Some (UnitRecord.Mark b)) = true
is_row_record (Some (UnitRecord.Free b)) = true
is_row_record doubt = false
