-- What the chunk of a unit says of it: its records in order, and the rows that they leave in the eyes of the protocol.
use Rattle.std.specs.Prelude.{ℕ, ◌≡◌, Bool, true, false, List, [], ◌∷◌, ◌++◌, Option, None, Some, option_map, IfSome, IsSomeAnd}
use Rattle.std.specs.FinMap as map
use Rattle.unit_id.specs.UnitName.{Name}
use Rattle.unit_id.specs.Place.{Place}
use Rattle.unit_id.specs.declared.request.Request.TheVariants as requests
use Rattle.unit_id.specs.declared.request.Request as sent
use Rattle.unit_id.specs.declared.answer.Answer.TheVariants as answers
use Rattle.unit_id.specs.declared.answer.Answer as answered
use Rattle.shard_record.specs.Rows.{Row, Rows, rows_after, row_at}
use Rattle.shard_record.specs.Rows as rows
use Rattle.shard_record.specs.declared.record.ShardRecord.{ShardRecord}
use Rattle.shard_record.specs.declared.record.ShardRecord.TheVariants as records
use Rattle.disk_base.specs.Disk.{IsWithin}
use Rattle.chunk_store.specs.Records.{IsChunkOf, IsWithOrWithout}
use Rattle.chunk_store.specs.Chunk.{ChunkView, HasRecords}
use Rattle.blob_node.specs.Units.{RowState, UnitRecord, Units, is_deleted}
use Rattle.blob_node.specs.UnitAnswer.{Effect}

-- a row without its bytes
abbrev pub state_of : Option Row → Option RowState
state_of None = None
state_of (Some (rows.Live blob_size bytes)) = Some RowState.Live
state_of (Some rows.Marked) = Some RowState.Marked
state_of (Some rows.Gone) = Some RowState.Gone

-- a record without its bytes
abbrev pub without_bytes : ShardRecord → UnitRecord
without_bytes (records.Shard bid unit blob_size bytes) = UnitRecord.Shard bid
without_bytes (records.Mark bid unit) = UnitRecord.Mark bid
without_bytes (records.Free bid unit) = UnitRecord.Free bid
without_bytes (records.Fence lock unit) = UnitRecord.Fence lock
without_bytes (records.Release unit) = UnitRecord.Release

-- the record that a request has written, with its bytes
abbrev pub item_of : sent.Request → Option ShardRecord
item_of (requests.Create unit disk) = None
item_of (requests.Fence unit disk lock) = Some (records.Fence lock unit)
item_of (requests.Put unit disk bid blob_size bytes) = Some (records.Shard bid unit blob_size bytes)
item_of (requests.Read unit disk bid) = None
item_of (requests.List unit disk lock) = None
item_of (requests.Copy unit disk bid blob_size bytes) = Some (records.Shard bid unit blob_size bytes)
item_of (requests.Mark unit disk bid) = Some (records.Mark bid unit)
item_of (requests.Free unit disk bid) = Some (records.Free bid unit)
item_of (requests.Release unit disk) = Some (records.Release unit)

-- the records of a unit's chunk in order, and the one in doubt, which may stand behind them
pub record Written : Type 0 where
  pub items : List ShardRecord
  pub doubt : Option ShardRecord

-- no records
abbrev pub nothing_written : Written
nothing_written = record { items = []; doubt = None }

-- the rows, the fence and the release of a unit are those that records leave
pub record HasRows (now : Rows) (row : ℕ → Option RowState) (fence : Option ℕ) (is_released : Bool) : Type 0 where
  pub rows : (bid : ℕ) → row bid ≡ state_of (map.get now.rows bid)
  pub fence_is : fence ≡ now.fence
  pub released : is_released ≡ now.is_released

-- a record that changes a unit: no other is ever written
abbrev pub IsNew : UnitRecord → Units → Place → Type 0
IsNew (UnitRecord.Shard bid) units place = units.row place bid ≡ None
IsNew (UnitRecord.Mark bid) units place = is_deleted (units.row place bid) ≡ false
IsNew (UnitRecord.Free bid) units place = units.row place bid ≡ Some RowState.Marked
IsNew (UnitRecord.Fence lock) units place = units.fence place ≡ None
IsNew UnitRecord.Release units place = units.is_released place ≡ false

-- the file is a log of the unit's records, without the one in doubt or with it
abbrev pub Says : Name → List ShardRecord → Option ShardRecord → List ℕ → Type 0
Says unit items None file = IsChunkOf file unit items
Says unit items (Some item) file = IsWithOrWithout unit items item file

-- A chunk's file has what was written. While the chunk is open nothing is in doubt, and a crash leaves the file as it is. While it is shut
-- the file, and what a crash leaves of it, are each without the record in doubt or with it.
abbrev pub FileHas : ChunkView → Written → Type 0
FileHas chunk written =
    (chunk.is_shut ≡ false → HasRecords chunk written.items × (written.doubt ≡ None))
    × (chunk.is_shut ≡ true →
    IsSomeAnd chunk.file.content (Says chunk.unit written.items written.doubt)
    × IsWithin chunk.file.images (Says chunk.unit written.items written.doubt))

-- The chunk of a unit stands for it: what was written is in its file, and leaves what the protocol knows of the unit. Memory knows whether
-- the unit is released, and the record in doubt. The protocol may count a chunk that is open as shut, and never the other way round.
pub record Holds (chunk : ChunkView) (doubt : Option UnitRecord) (is_released : Bool) (written : Written) (units : Units) (place : Place) : Type 0 where
  pub made : units.is_made place ≡ true
  pub rows_are : HasRows (rows_after written.items) (units.row place) (units.fence place) (units.is_released place)
  pub shut : chunk.is_shut ≡ true → units.is_shut place ≡ true
  pub released : is_released ≡ units.is_released place
  pub doubted : units.doubt place ≡ doubt
  pub doubt_is : option_map without_bytes written.doubt ≡ doubt
  pub new : IfSome doubt (λ item. IsNew item units place × (units.is_released place ≡ false))
  pub file : FileHas chunk written

-- what was written once the chunk is open again: the record in doubt was found or not
abbrev pub with_item : List ShardRecord → Option ShardRecord → List ShardRecord
with_item items None = items
with_item items (Some item) = items ++ item ∷ []

-- what is written after an answer with this effect to a request that is to write this record
abbrev pub written_after : Effect → Option ShardRecord → Written → Written
written_after Effect.Nothing item written = written
written_after Effect.Made item written = nothing_written
written_after Effect.Started item written = written
written_after Effect.Wrote item written = record written { items = with_item written.items item }
written_after Effect.Doubted item written = record written { doubt = item }

-- an answer with bytes shows the row of the blob that is read
abbrev pub ShowsBytes : sent.Request → answered.Answer → List ShardRecord → Type 0
ShowsBytes (requests.Read unit disk bid) (answers.Live blob_size bytes) items = row_at items bid ≡ Some (rows.Live blob_size bytes)
ShowsBytes request answer items = Unit {0}
