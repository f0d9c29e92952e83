-- The rows of a chunk, as its records in order leave them.
use Rattle.std.specs.Prelude.{ℕ, ◌≡◌, Bool, true, false, List, [], ◌∷◌, ◌++◌, Option, None, Some}
use Rattle.std.specs.Ordering.{nat_cmp}
use Rattle.std.specs.FinMap.{FinMap}
use Rattle.std.specs.FinMap as map
use Rattle.unit_id.specs.UnitName.{Name}
use Rattle.shard_record.specs.declared.record.ShardRecord.{ShardRecord}
use Rattle.shard_record.specs.declared.record.ShardRecord.TheVariants.{Shard, Mark, Free, Fence, Release}

-- what a chunk holds of a blob: its shard with the blob's size, the mark of a delete, or that it is gone
pub data Row : Type 0 where
  Live : ℕ → List ℕ → Row
  Marked : Row
  Gone : Row

-- the rows by blob, the lock number of the fence, and whether the unit was released
pub record Rows : Type 0 where
  pub rows : FinMap nat_cmp Row
  pub fence : Option ℕ
  pub is_released : Bool

abbrev pub no_rows : Rows
no_rows = record { rows = map.empty; fence = None; is_released = false }

-- the rows with this row for a blob
abbrev pub with_row : Rows → ℕ → Row → Rows
with_row now bid row = record now { rows = map.insert now.rows bid row }

-- a shard is taken where the blob has no row yet
abbrev pub after_shard : Rows → ℕ → ℕ → List ℕ → Option Row → Rows
after_shard now bid blob_size bytes None = with_row now bid (Live blob_size bytes)
after_shard now bid blob_size bytes (Some row) = now

-- a mark is set on a live row, and where the blob has none; marked and gone rows stay
abbrev pub after_mark : Rows → ℕ → Option Row → Rows
after_mark now bid None = with_row now bid Marked
after_mark now bid (Some (Live blob_size bytes)) = with_row now bid Marked
after_mark now bid (Some Marked) = now
after_mark now bid (Some Gone) = now

-- a marked row alone goes
abbrev pub after_free : Rows → ℕ → Option Row → Rows
after_free now bid None = now
after_free now bid (Some (Live blob_size bytes)) = now
after_free now bid (Some Marked) = with_row now bid Gone
after_free now bid (Some Gone) = now

-- the first fence stays
abbrev pub after_fence : Rows → ℕ → Option ℕ → Rows
after_fence now lock None = record now { fence = Some lock }
after_fence now lock (Some first) = now

-- a released unit has no rows and no fence
abbrev pub released : Rows
released = record { rows = map.empty; fence = None; is_released = true }

abbrev pub after_record : Rows → ShardRecord → Rows
after_record now (Shard bid unit blob_size bytes) =
    after_shard now bid blob_size bytes (map.get now.rows bid)
after_record now (Mark bid unit) = after_mark now bid (map.get now.rows bid)
after_record now (Free bid unit) = after_free now bid (map.get now.rows bid)
after_record now (Fence lock unit) = after_fence now lock now.fence
after_record now (Release unit) = released

-- nothing changes a released unit
abbrev pub after_next : Rows → ShardRecord → Bool → Rows
after_next now item true = now
after_next now item false = after_record now item

-- the rows that records leave, from the rows before them
abbrev pub rows_from : Rows → List ShardRecord → Rows
rows_from now [] = now
rows_from now (item ∷ items) = rows_from (after_next now item now.is_released) items

-- the rows of a chunk with these records
abbrev pub rows_after : List ShardRecord → Rows
rows_after items = rows_from no_rows items

-- the row of a blob
abbrev pub row_at : List ShardRecord → ℕ → Option Row
row_at items bid = map.get (rows_after items).rows bid

-- the row is marked or gone
abbrev pub IsDeleted : Option Row → Type 0
IsDeleted None = ⊥
IsDeleted (Some (Live blob_size bytes)) = ⊥
IsDeleted (Some Marked) = Unit {0}
IsDeleted (Some Gone) = Unit {0}

-- a marked or gone row never becomes live or absent while the unit isn't released
abbrev pub AreDeletesKept : Type 0
AreDeletesKept =
    (items more : List ShardRecord) (bid : ℕ) → IsDeleted (row_at items bid) →
    (rows_after (items ++ more)).is_released ≡ false → IsDeleted (row_at (items ++ more) bid)

-- a gone row stays gone while the unit isn't released
abbrev pub AreGoneRowsKept : Type 0
AreGoneRowsKept =
    (items more : List ShardRecord) (bid : ℕ) → row_at items bid ≡ Some Gone →
    (rows_after (items ++ more)).is_released ≡ false → row_at (items ++ more) bid ≡ Some Gone

-- the first fence stays while the unit isn't released
abbrev pub IsFirstFenceKept : Type 0
IsFirstFenceKept =
    (items more : List ShardRecord) (lock : ℕ) → (rows_after items).fence ≡ Some lock →
    (rows_after (items ++ more)).is_released ≡ false → (rows_after (items ++ more)).fence ≡ Some lock

-- a release is the end: whatever records follow, the unit has no rows and no fence and stays released
abbrev pub IsReleaseTheEnd : Type 0
IsReleaseTheEnd =
    (items more : List ShardRecord) (unit : Name) →
    ((rows_after items).is_released ≡ true → rows_after (items ++ more) ≡ rows_after items)
    × (rows_after (items ++ Release unit ∷ more) ≡ released)
