-- The records of a chunk: what its file says, and what memory keeps of it.
use Rattle.std.specs.Prelude.{ℕ, ◌≡◌, ◌⊎◌, false, List, [], ◌∷◌, ◌++◌, Option, None, Some}
use Rattle.std.specs.FinMap as map
use Rattle.unit_id.specs.UnitName.{Name}
use Rattle.gate_log.specs.LogFile.{IsLogOf, end_place}
use Rattle.shard_record.specs.Rows.{Rows, Row, no_rows, after_next, rows_from, rows_after, row_at}
use Rattle.shard_record.specs.Rows as rows
use Rattle.shard_record.specs.Spelling.{Spells, unit_of}
use Rattle.shard_record.specs.declared.record.ShardRecord.{ShardRecord}
use Rattle.shard_record.specs.declared.record.ShardRecord.TheVariants.{Shard}
use Rattle.chunk_store.specs.Kept.{KeptRows, row_of, kind_of}
use Rattle.chunk_store.specs.declared.answer.RowKind.{RowKind}
use Rattle.chunk_store.specs.declared.answer.RowKind.TheVariants as kinds
use Rattle.chunk_store.specs.declared.index.KeptRow.{KeptRow}
use Rattle.chunk_store.specs.declared.index.KeptRow.TheVariants.{Live, Marked, Gone}

-- behind records that left these rows a body is a further record of the unit: it spells one, and none stands behind a release
pub record IsNext (unit : Name) (now : Rows) (body : List ℕ) (item : ShardRecord) : Type 0 where
  pub spells : Spells item body
  pub own : unit_of item ≡ unit
  pub unreleased : now.is_released ≡ false

-- the bodies are these records of the unit, one by one
abbrev pub AreRecordsFrom : Name → Rows → List (List ℕ) → List ShardRecord → Type 0
AreRecordsFrom unit now [] [] = Unit {0}
AreRecordsFrom unit now (body ∷ bodies) (item ∷ items) =
    IsNext unit now body item × AreRecordsFrom unit (after_next now item now.is_released) bodies items
AreRecordsFrom unit now [] (item ∷ items) = ⊥
AreRecordsFrom unit now (body ∷ bodies) [] = ⊥

abbrev pub AreRecords : Name → List (List ℕ) → List ShardRecord → Type 0
AreRecords unit bodies items = AreRecordsFrom unit no_rows bodies items

-- the file is a log of these records of the unit; a crash may have left it
pub record IsChunkOf (file : List ℕ) (unit : Name) (items : List ShardRecord) : Type 0 where
  pub bodies : List (List ℕ)
  pub log : IsLogOf file bodies
  pub records : AreRecords unit bodies items

-- the file is a log of the records of the unit, without one more or with it at the end
abbrev pub IsWithOrWithout : Name → List ShardRecord → ShardRecord → List ℕ → Type 0
IsWithOrWithout unit items item file = IsChunkOf file unit items ⊎ IsChunkOf file unit (items ++ item ∷ [])

-- at a place of the log stands the record
pub record StandsAt (bodies : List (List ℕ)) (place : ℕ) (item : ShardRecord) : Type 0 where
  pub before : List (List ℕ)
  pub body : List ℕ
  pub after : List (List ℕ)
  pub bodies_are : bodies ≡ before ++ body ∷ after
  pub place_is : place ≡ end_place before
  pub spells : Spells item body

-- what is kept of the row of a blob: of a live one the place of its shard and the size of the blob
abbrev pub IsKept : Name → List (List ℕ) → ℕ → Option KeptRow → Option Row → Type 0
IsKept unit bodies bid None None = Unit {0}
IsKept unit bodies bid (Some (Live place blob_size)) (Some (rows.Live size bytes)) =
    (blob_size ≡ size) × StandsAt bodies place (Shard bid unit size bytes)
IsKept unit bodies bid (Some Marked) (Some rows.Marked) = Unit {0}
IsKept unit bodies bid (Some Gone) (Some rows.Gone) = Unit {0}
IsKept unit bodies bid _ _ = ⊥

-- what is kept of these rows, where the bodies are the records that left them
pub record Reflects (unit : Name) (bodies : List (List ℕ)) (kept : KeptRows) (now : Rows) : Type 0 where
  pub rows : (bid : ℕ) → IsKept unit bodies bid (row_of kept bid) (map.get now.rows bid)
  pub fence : kept.fence ≡ now.fence
  pub released : kept.is_released ≡ now.is_released

-- what a row is, without its bytes
abbrev pub kind_of_row : Option Row → Option RowKind
kind_of_row None = None
kind_of_row (Some (rows.Live blob_size bytes)) = Some kinds.Live
kind_of_row (Some rows.Marked) = Some kinds.Marked
kind_of_row (Some rows.Gone) = Some kinds.Gone

-- what is kept of these rows, without where the shards stand
pub record HasKinds (kept : KeptRows) (now : Rows) : Type 0 where
  pub kinds : (bid : ℕ) → kind_of (row_of kept bid) ≡ kind_of_row (map.get now.rows bid)
  pub fence : kept.fence ≡ now.fence
  pub released : kept.is_released ≡ now.is_released
