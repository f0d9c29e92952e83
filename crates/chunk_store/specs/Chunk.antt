-- What a chunk is seen as, what each call is to do, and what it answers.
use Rattle.std.specs.Prelude.{ℕ, ◌≡◌, ◌⊎◌, ◌≤◌, ◌+◌, Bool, true, false, ◌==◌, nat_lt, if◌then◌else◌, List, [], ◌∷◌, ◌++◌, Option, None, Some, Result, Ok, Err, OnOk, IfSome, IsSome, IsSomeAnd, length, refl}
use Rattle.std.specs.Coded.{Coded, code_by, coded×, coded_ℕ, coded_bool, coded_option}
use Rattle.unit_id.specs.UnitName.{Name}
use Rattle.disk_base.specs.Faults.{Rose}
use Rattle.disk_base.specs.Disk.{Images, FileView, LeavesExactly, AtEachMoment, Lasts, OnlyReads}
use Rattle.gate_log.specs.LogFile.{StandsFor, contents_of, bad_head, bad_chain, end_place, longest_file, IsSameOrOpen}
use Rattle.gate_log.specs.GateLog.{LogOver}
use Rattle.shard_record.specs.Rows.{Row, Rows, rows_after, row_at}
use Rattle.shard_record.specs.Rows as rows
use Rattle.shard_record.specs.Spelling.{Spells, first_fault, shard_part}
use Rattle.shard_record.specs.declared.record.ShardRecord.{ShardRecord}
use Rattle.shard_record.specs.declared.record.ShardRecord.TheVariants.{Shard, Mark, Free, Fence, Release}
use Rattle.shard_record.specs.declared.record.RecordFault.TheVariants.{BadSum}
use Rattle.chunk_store.specs.Kept.{KeptRows, row_of, kept_after, coded_kept, shut_after}
use Rattle.chunk_store.specs.Records.{IsNext, AreRecords, IsChunkOf, IsWithOrWithout, Reflects}
use Rattle.chunk_store.specs.declared.index.KeptRow.{KeptRow}
use Rattle.chunk_store.specs.declared.index.KeptRow.TheVariants as kept
use Rattle.chunk_store.specs.declared.fault.ChunkFault.{ChunkFault}
use Rattle.chunk_store.specs.declared.fault.ChunkFault.TheVariants.{Fault, Shut, Damaged, Spoiled, Full, NotMarked, Fenced, Memory}
use Rattle.chunk_store.specs.declared.answer.Put.{Put}
use Rattle.chunk_store.specs.declared.answer.Put.TheVariants as put
use Rattle.chunk_store.specs.declared.answer.Got.{Got}
use Rattle.chunk_store.specs.declared.answer.Got.TheVariants as got

-- ---- a chunk

-- its unit, its log, the rows as memory keeps them, whether it is shut, and for how many rows more memory has room
pub record ChunkOver (E : Type 0) : Type 0 where
  pub unit : Name
  pub log : LogOver E
  pub kept : KeptRows
  pub is_shut : Bool
  pub spare : ℕ

-- the same by what its file is seen as
pub record ChunkView : Type 1 where
  pub unit : Name
  pub file : FileView
  pub end : Option ℕ
  pub kept : KeptRows
  pub is_shut : Bool
  pub spare : ℕ

abbrev pub shown : {E : Type 0} → (E → FileView) → ChunkOver E → ChunkView
shown seen chunk = record { unit = chunk.unit; file = seen chunk.log.file; end = chunk.log.end; kept = chunk.kept; is_shut = chunk.is_shut; spare = chunk.spare }

abbrev coded_log : {E : Type 0} → Coded E → Coded (LogOver E)
coded_log {E} file = code_by (E × Option ℕ) (coded× file (coded_option coded_ℕ)) (λ log. (log.file, log.end)) (λ parts. record { file = parts.0; end = parts.1 }) (λ _. refl)

abbrev coded_name : Coded Name
coded_name = code_by (ℕ × (ℕ × ℕ)) (coded× coded_ℕ (coded× coded_ℕ coded_ℕ)) (λ name. (name.vid, (name.index, name.epoch))) (λ parts. record { vid = parts.0; index = parts.1.0; epoch = parts.1.1 }) (λ _. refl)

abbrev pub coded_chunk : {E : Type 0} → Coded E → Coded (ChunkOver E)
coded_chunk {E} file =
    code_by (Name × (LogOver E × (KeptRows × (Bool × ℕ)))) (coded× coded_name (coded× (coded_log file) (coded× coded_kept (coded× coded_bool coded_ℕ))))
    (λ chunk. (chunk.unit, (chunk.log, (chunk.kept, (chunk.is_shut, chunk.spare)))))
    (λ parts. record { unit = parts.0; log = parts.1.0; kept = parts.1.1.0; is_shut = parts.1.1.1.0; spare = parts.1.1.1.1 }) (λ _. refl)

-- the file of a started chunk: a log of records of the unit, which a crash leaves as it is, and what memory keeps reflects them
pub record Remembers (unit : Name) (kept : KeptRows) (images : Images) (file : List ℕ) : Type 0 where
  pub items : List ShardRecord
  pub chunk : IsChunkOf file unit items
  pub exactly : LeavesExactly file images
  pub reflects : Reflects unit chunk.bodies kept (rows_after items)

-- what holds of a chunk that isn't shut
pub record IsOpen (unit : Name) (kept : KeptRows) (file : FileView) (end : Option ℕ) : Type 0 where
  pub started : IsSome end
  pub told : IfSome file.content (Remembers unit kept file.images)

-- what always holds of a chunk
abbrev pub IsSoundOver : Name → KeptRows → FileView → Option ℕ → Bool → Type 0
IsSoundOver unit kept file end is_shut = is_shut ≡ false → IsOpen unit kept file end

abbrev pub IsSound : ChunkView → Type 0
IsSound chunk = IsSoundOver chunk.unit chunk.kept chunk.file chunk.end chunk.is_shut

-- the chunk's file tells these records, and a crash leaves it as it is
abbrev pub HasRecords : ChunkView → List ShardRecord → Type 0
HasRecords chunk items = IsSomeAnd chunk.file.content (λ file. IsChunkOf file chunk.unit items × LeavesExactly file chunk.file.images)

-- ---- what every call keeps

-- the count of faults rises exactly where the answer is a fault
abbrev pub CountsFault : {T : Type 0} → ℕ → ℕ → Result T ChunkFault → Type 0
CountsFault before now (Err Fault) = Rose before now
CountsFault before now _ = now ≡ before

pub record ChunkCall {T : Type 0} (old new : FileView) (result : Result T ChunkFault) : Type 0 where
  pub lasts : Lasts old new
  pub counts : CountsFault old.faults new.faults result

-- nothing was written, and all but what the file counts is as before
pub record IsUnwritten (old new : ChunkView) : Type 0 where
  pub unit : new.unit ≡ old.unit
  pub end : new.end ≡ old.end
  pub kept : new.kept ≡ old.kept
  pub is_shut : new.is_shut ≡ old.is_shut
  pub reads : OnlyReads old.file new.file

-- the same, and room and spare of the chunk too
pub record IsReadOnly (old new : ChunkView) : Type 0 where
  pub unwritten : IsUnwritten old new
  pub spare : new.spare ≡ old.spare

-- ---- start

-- the first body of a file that is no record of the unit, at its place
pub record IsFirstBad (unit : Name) (file : List ℕ) (place : ℕ) (body : List ℕ) : Type 0 where
  pub before : List (List ℕ)
  pub after : List (List ℕ)
  pub stands : StandsFor file (before ++ body ∷ after)
  pub place_is : place ≡ end_place before
  pub items : List ShardRecord
  pub records : AreRecords unit before items
  pub bad : (item : ShardRecord) → IsNext unit (rows_after items) body item → ⊥

-- the sum of a body's bytes differs from the one that stands with them
abbrev pub IsDamaged : List ℕ → ℕ → ℕ → Type 0
IsDamaged body kept computed = first_fault body ≡ Some (BadSum kept computed)

-- the file is no log, or its first bad body has another fault than its sum, names another unit or stands behind a release
abbrev pub IsSpoiled : Name → List ℕ → ℕ → Type 0
IsSpoiled unit file place =
    ((contents_of file ≡ bad_head) × (place ≡ 0))
    ⊎ ((contents_of file ≡ bad_chain place)
    ⊎ ((body : List ℕ) × IsFirstBad unit file place body × ((kept computed : ℕ) → IsDamaged body kept computed → ⊥)))

-- what a start answers, by what the file says
abbrev pub StartAnswers : Name → Option (List ℕ) → Result (Unit {0}) ChunkFault → Type 0
StartAnswers unit content (Ok _) = IfSome content (λ file. (items : List ShardRecord) × (bodies : List (List ℕ)) × StandsFor file bodies × AreRecords unit bodies items)
StartAnswers unit content (Err (Damaged kept computed)) = IfSome content (λ file. (place : ℕ) × (body : List ℕ) × IsFirstBad unit file place body × IsDamaged body kept computed)
StartAnswers unit content (Err (Spoiled place)) = IfSome content (λ file. IsSpoiled unit file place)
StartAnswers unit content (Err Fault) = Unit {0}
StartAnswers unit content (Err Memory) = Unit {0}
StartAnswers unit content (Err _) = ⊥

-- how a chunk stands after a start: want of memory leaves it as before, and each other refusal shut
abbrev pub StartEnds : ChunkView → ChunkView → Result (Unit {0}) ChunkFault → Type 0
StartEnds old new (Ok _) = new.is_shut ≡ false
StartEnds old new (Err fault) = (new.is_shut ≡ shut_after fault old.is_shut) × (new.kept ≡ old.kept)

-- a start over a file that is a log of these records of the unit, whoever wrote it and whatever a crash left of it
pub record StartsWith (items : List ShardRecord) (old new : ChunkView) (result : Result (Unit {0}) ChunkFault) : Type 0 where
  -- it finds them
  pub found : OnOk result (HasRecords new items)
  pub whole : (fault : ChunkFault) → result ≡ Err fault → (fault ≡ Fault) ⊎ (fault ≡ Memory)
  -- and the file is a log of them throughout
  pub stands : IsSomeAnd new.file.content (λ file. IsChunkOf file new.unit items)
  pub any_moment : AtEachMoment old.file new.file (λ image. old.file.images image ⊎ IsChunkOf image new.unit items)

-- a start over a file that may be no chunk's: what it leaves says the same
pub record Starts (file : List ℕ) (old new : FileView) : Type 0 where
  pub says : IsSomeAnd new.content (IsSameOrOpen file)
  pub any_moment : AtEachMoment old new (λ image. old.images image ⊎ IsSameOrOpen file image)

-- ---- calls that may write a record

-- what a call is to do: refuse, answer and write nothing, or write a record and answer
pub data Plan (T : Type 0) : Type 0 where
  refuse : ChunkFault → Plan T
  answer : T → Plan T
  add : ShardRecord → T → Plan T

abbrev pub unless_shut : {T : Type 0} → Bool → Plan T → Plan T
unless_shut true plan = refuse Shut
unless_shut false plan = plan

abbrev pub unless_fenced : {T : Type 0} → Option ℕ → Plan T → Plan T
unless_fenced (Some lock) plan = refuse (Fenced lock)
unless_fenced None plan = plan

-- a chunk that is shut or fenced writes no row
abbrev pub MayWrite : Bool → Option ℕ → Result (Unit {0}) ChunkFault → Type 0
MayWrite true fence result = result ≡ Err Shut
MayWrite false (Some lock) result = result ≡ Err (Fenced lock)
MayWrite false None result = result ≡ Ok tt

abbrev pub put_at : Option KeptRow → ShardRecord → Plan Put
put_at None item = add item put.Stored
put_at (Some (kept.Live place blob_size)) item = answer put.Already
put_at (Some kept.Marked) item = answer put.Deleted
put_at (Some kept.Gone) item = answer put.Deleted

abbrev pub mark_at : Option KeptRow → ShardRecord → Plan Bool
mark_at None item = add item true
mark_at (Some (kept.Live place blob_size)) item = add item true
mark_at (Some kept.Marked) item = answer false
mark_at (Some kept.Gone) item = answer false

abbrev pub free_at : Option KeptRow → ShardRecord → Plan Bool
free_at None item = refuse NotMarked
free_at (Some (kept.Live place blob_size)) item = refuse NotMarked
free_at (Some kept.Marked) item = add item true
free_at (Some kept.Gone) item = answer false

abbrev pub fence_at : Option ℕ → ℕ → ShardRecord → Plan (Unit {0})
fence_at None lock item = add item tt
fence_at (Some first) lock item = if first == lock then answer tt else refuse (Fenced first)

module _ {E : Type 0} (chunk : ChunkOver E) where
  abbrev pub put_plan : ℕ → ℕ → List ℕ → Plan Put
  put_plan bid blob_size bytes = unless_shut chunk.is_shut (unless_fenced chunk.kept.fence (put_at (row_of chunk.kept bid) (Shard bid chunk.unit blob_size bytes)))

  abbrev pub mark_plan : ℕ → Plan Bool
  mark_plan bid = unless_shut chunk.is_shut (unless_fenced chunk.kept.fence (mark_at (row_of chunk.kept bid) (Mark bid chunk.unit)))

  abbrev pub free_plan : ℕ → Plan Bool
  free_plan bid = unless_shut chunk.is_shut (unless_fenced chunk.kept.fence (free_at (row_of chunk.kept bid) (Free bid chunk.unit)))

  abbrev pub fence_plan : ℕ → Plan (Unit {0})
  fence_plan lock = unless_shut chunk.is_shut (fence_at chunk.kept.fence lock (Fence lock chunk.unit))

  abbrev pub release_plan : Plan (Unit {0})
  release_plan = unless_shut chunk.is_shut (add (Release chunk.unit) tt)

-- how many bytes a record has
abbrev pub record_size : ShardRecord → ℕ
record_size item = 21 + length (shard_part item)

-- with the record the file would pass its limit
abbrev pub is_full : ShardRecord → ℕ → Bool
is_full item end = nat_lt longest_file (end + 6 + record_size item)

-- how a chunk stands after it was to write a record at its end
abbrev pub AddEnds : {T : Type 0} → ShardRecord → T → ChunkView → ChunkView → Result T ChunkFault → Type 0
AddEnds item reply old new (Ok x) = (x ≡ reply) × IsSomeAnd old.end (λ place. new.kept ≡ kept_after old.kept place item) × (new.is_shut ≡ false)
AddEnds item reply old new (Err Fault) = (new.kept ≡ old.kept) × (new.is_shut ≡ true)
AddEnds item reply old new (Err (Full end)) = (old.end ≡ Some end) × (is_full item end ≡ true) × IsUnwritten old new
AddEnds item reply old new (Err Memory) = IsUnwritten old new
AddEnds item reply old new (Err _) = ⊥

-- a record that is to stand behind these
pub record AddsTo {T : Type 0} (items : List ShardRecord) (item : ShardRecord) (old new : ChunkView) (result : Result T ChunkFault) : Type 0 where
  -- at Ok it does, and a crash leaves it there
  pub added : OnOk result (HasRecords new (items ++ item ∷ []))
  -- whatever the answer, the file is a log of the records before or after
  pub stands : IsSomeAnd new.file.content (IsWithOrWithout new.unit items item)
  -- and so is what a crash at any moment leaves
  pub any_moment : AtEachMoment old.file new.file (IsWithOrWithout new.unit items item)

-- A call that is to write a record and then to answer.
pub record Adds {T : Type 0} (item : ShardRecord) (reply : T) (old new : ChunkView) (result : Result T ChunkFault) : Type 0 where
  pub ends : AddEnds item reply old new result
  pub unit : new.unit ≡ old.unit
  -- a full chunk takes none
  pub full : IfSome old.end (λ place. is_full item place ≡ true → (result ≡ Err (Full place)) ⊎ (result ≡ Err Memory))
  -- at most one row of the room for rows is used
  pub spare : old.spare ≤ new.spare + 1
  pub call : ChunkCall old.file new.file result
  pub told : (items : List ShardRecord) → HasRecords old items → AddsTo items item old new result

-- a call does what is planned
abbrev pub Does : {E T : Type 0} → (E → FileView) → Plan T → ChunkOver E → ChunkOver E → Result T ChunkFault → Type 0
Does seen (refuse fault) old new result = (result ≡ Err fault) × (new ≡ old)
Does seen (answer x) old new result = (result ≡ Ok x) × (new ≡ old)
Does seen (add item x) old new result = Adds item x (shown seen old) (shown seen new) result

-- ---- get

-- what a get answers where the row is live: bytes of a record that was read with its right sum, or a cause
abbrev pub LiveAnswers : Name → ℕ → ℕ → ℕ → Result Got ChunkFault → Type 0
LiveAnswers unit bid place blob_size (Ok (got.Live size bytes)) = (size ≡ blob_size) × (body : List ℕ) × Spells (Shard bid unit blob_size bytes) body
LiveAnswers unit bid place blob_size (Ok _) = ⊥
LiveAnswers unit bid place blob_size (Err (Damaged kept computed)) = (body : List ℕ) × IsDamaged body kept computed
LiveAnswers unit bid place blob_size (Err (Spoiled at)) = at ≡ place
LiveAnswers unit bid place blob_size (Err Fault) = Unit {0}
LiveAnswers unit bid place blob_size (Err Memory) = Unit {0}
LiveAnswers unit bid place blob_size (Err _) = ⊥

-- the same by whether the chunk is shut and by the row that is kept
abbrev pub GetAnswers : Name → ℕ → Bool → Option KeptRow → Result Got ChunkFault → Type 0
GetAnswers unit bid true row result = result ≡ Err Shut
GetAnswers unit bid false None result = result ≡ Ok got.Absent
GetAnswers unit bid false (Some kept.Marked) result = result ≡ Ok got.Marked
GetAnswers unit bid false (Some kept.Gone) result = result ≡ Ok got.Gone
GetAnswers unit bid false (Some (kept.Live place blob_size)) result = LiveAnswers unit bid place blob_size result

-- the answer that shows a row
abbrev pub got_of : Option Row → Got
got_of None = got.Absent
got_of (Some (rows.Live blob_size bytes)) = got.Live blob_size bytes
got_of (Some rows.Marked) = got.Marked
got_of (Some rows.Gone) = got.Gone

-- a get shows this row, if the file doesn't fail and there is memory
abbrev pub Gets : Option Row → Result Got ChunkFault → Type 0
Gets row (Ok got) = got ≡ got_of row
Gets row (Err Fault) = Unit {0}
Gets row (Err Memory) = Unit {0}
Gets row (Err _) = ⊥

-- ---- list

abbrev pub ListAnswers : Bool → (List ℕ × List ℕ → Type 0) → Result (List ℕ × List ℕ) ChunkFault → Type 0
ListAnswers true P result = result ≡ Err Shut
ListAnswers false P (Ok lists) = P lists
ListAnswers false P (Err Memory) = Unit {0}
ListAnswers false P (Err _) = ⊥
