-- What the start of a chunk's log answers and leaves.
use Rattle.std.specs.Prelude.{ℕ, ◌≡◌, ◌⊎◌, ◌<◌, ◌≤◌, List, [], ◌∷◌, ◌++◌, Option, Result, Ok, Err, IfSome, IsSome, IsSomeAnd}
use Rattle.unit_id.specs.UnitName.{Name}
use Rattle.disk_base.specs.Disk.{Images, FileView, LeavesExactly, OnlyReads}
use Rattle.gate_log.specs.LogFile.{StandsFor, holds, bad_head, bad_chain, contents_of, bodies_of, end_place, IsLogOf}
use Rattle.gate_log.specs.GateLog.{LogView, HasCome}
use Rattle.gate_log.specs.declared.start.Cursor.{Cursor}
use Rattle.gate_log.specs.declared.fault.LogFault.{LogFault}
use Rattle.gate_log.specs.declared.fault.LogFault.TheVariants as log
use Rattle.shard_record.specs.Rows.{rows_after}
use Rattle.shard_record.specs.declared.record.ShardRecord.{ShardRecord}
use Rattle.chunk_store.specs.Kept.{KeptRows, Index}
use Rattle.chunk_store.specs.Records.{IsNext, AreRecords, Reflects}
use Rattle.chunk_store.specs.Chunk.{IsFirstBad, IsDamaged, IsSpoiled}
use Rattle.chunk_store.specs.Reading.{IsUndamaged}
use Rattle.chunk_store.specs.declared.starting.Step.{Step}
use Rattle.chunk_store.specs.declared.starting.Step.TheVariants.{Noted, Bad, End}
use Rattle.chunk_store.specs.declared.fault.ChunkFault.{ChunkFault}
use Rattle.chunk_store.specs.declared.fault.ChunkFault.TheVariants.{Fault, Damaged, Spoiled, Memory}

-- why a log doesn't start
abbrev pub IsStartFault : LogFault → Type 0
IsStartFault log.Fault = Unit {0}
IsStartFault log.BadHead = Unit {0}
IsStartFault (log.BadChain place) = Unit {0}
IsStartFault log.Memory = Unit {0}
IsStartFault _ = ⊥

-- and what the chunk answers then
abbrev pub fault_by_start : LogFault → ChunkFault
fault_by_start log.BadHead = Spoiled 0
fault_by_start (log.BadChain place) = Spoiled place
fault_by_start log.Memory = Memory
fault_by_start _ = Fault

-- ---- record by record

-- a start has come over records of the unit up to a cursor, and what is kept reflects their rows
pub record IsRead (unit : Name) (file : List ℕ) (cursor : Cursor) (kept : KeptRows) : Type 0 where
  pub bodies : List (List ℕ)
  pub come : HasCome file bodies cursor
  pub items : List ShardRecord
  pub records : AreRecords unit bodies items
  pub reflects : Reflects unit bodies kept (rows_after items)

-- the body before a cursor is no record of the unit, and all those before it are
pub record IsBadAt (unit : Name) (file : List ℕ) (cursor : Cursor) (place : ℕ) (body : List ℕ) : Type 0 where
  pub before : List (List ℕ)
  pub come : HasCome file (before ++ body ∷ []) cursor
  pub place_is : place ≡ end_place before
  pub items : List ShardRecord
  pub records : AreRecords unit before items
  pub bad : (item : ShardRecord) → IsNext unit (rows_after items) body item → ⊥

-- what is wrong with it
abbrev pub IsBadFor : Name → List ℕ → Cursor → ChunkFault → Type 0
IsBadFor unit file cursor (Damaged kept computed) = (place : ℕ) × (body : List ℕ) × IsBadAt unit file cursor place body × IsDamaged body kept computed
IsBadFor unit file cursor (Spoiled place) = (body : List ℕ) × IsBadAt unit file cursor place body × IsUndamaged body
IsBadFor unit file cursor _ = ⊥

-- why no further body was read
abbrev pub IsStopFor : List ℕ → ChunkFault → Type 0
IsStopFor file (Spoiled place) = contents_of file ≡ bad_chain place
IsStopFor file Fault = Unit {0}
IsStopFor file Memory = Unit {0}
IsStopFor file _ = ⊥

-- the same names whatever the file tells
abbrev pub IsBadName : ChunkFault → Type 0
IsBadName (Damaged kept computed) = Unit {0}
IsBadName (Spoiled place) = Unit {0}
IsBadName _ = ⊥

abbrev pub IsStopName : ChunkFault → Type 0
IsStopName (Spoiled place) = Unit {0}
IsStopName Fault = Unit {0}
IsStopName Memory = Unit {0}
IsStopName _ = ⊥

-- what a body that spells no record of the unit makes of a step
abbrev pub step_by : ChunkFault → Result Step ChunkFault
step_by Memory = Err Memory
step_by fault = Ok (Bad fault)

abbrev pub StepNames : Result Step ChunkFault → Type 0
StepNames (Ok (Bad fault)) = IsBadName fault
StepNames (Ok _) = Unit {0}
StepNames (Err fault) = IsStopName fault

-- a step on to a cursor that has come over records of the unit
abbrev pub StepAnswers : Name → List ℕ → Cursor → KeptRows → Result Step ChunkFault → Type 0
StepAnswers unit file cursor kept (Ok Noted) = IsRead unit file cursor kept
StepAnswers unit file cursor kept (Ok End) = (read : IsRead unit file cursor kept) × (contents_of file ≡ holds read.bodies)
StepAnswers unit file cursor kept (Ok (Bad fault)) = IsBadFor unit file cursor fault
StepAnswers unit file cursor kept (Err fault) = IsStopFor file fault

-- the cursor went on inside the file
pub record IsOnward (old new : Cursor) : Type 0 where
  pub further : old.place < new.place
  pub inside : new.place ≤ new.len
  pub same : new.len ≡ old.len

abbrev pub RowsNames : Result (Result Index ChunkFault) ChunkFault → Type 0
RowsNames (Ok (Err fault)) = IsBadName fault
RowsNames (Ok (Ok index)) = Unit {0}
RowsNames (Err fault) = IsStopName fault

-- the rows of all records, the first that is bad, or why the reading stopped
abbrev pub RowsRead : Name → List ℕ → Cursor → Result (Result Index ChunkFault) ChunkFault → Type 0
RowsRead unit file cursor (Ok (Ok index)) = (read : IsRead unit file cursor index.kept) × (contents_of file ≡ holds read.bodies)
RowsRead unit file cursor (Ok (Err fault)) = IsBadFor unit file cursor fault
RowsRead unit file cursor (Err fault) = IsStopFor file fault

-- what the end of the log's start answers
abbrev pub FinishAnswers : Option (List ℕ) → Result (Unit {0}) ChunkFault → Type 0
FinishAnswers content (Ok _) = IfSome content (λ file. contents_of file ≡ holds (bodies_of file))
FinishAnswers content (Err (Spoiled place)) = IfSome content (λ file. ((contents_of file ≡ bad_head) × (place ≡ 0)) ⊎ (contents_of file ≡ bad_chain place))
FinishAnswers content (Err Fault) = Unit {0}
FinishAnswers content (Err Memory) = Unit {0}
FinishAnswers content (Err _) = ⊥

-- how the log stands then: started at Ok, and for want of memory its file is as before
abbrev pub FinishEnds : {T : Type 0} → LogView → LogView → Result T ChunkFault → Type 0
FinishEnds old new (Ok _) = IsSome new.end
FinishEnds old new (Err Memory) = OnlyReads old.file new.file
FinishEnds old new (Err _) = Unit {0}

-- ---- the whole

-- the bodies of a file are records of the unit, whose rows are kept
pub record HasRows (unit : Name) (file : List ℕ) (index : Index) : Type 0 where
  pub stands : StandsFor file (bodies_of file)
  pub items : List ShardRecord
  pub records : AreRecords unit (bodies_of file) items
  pub reflects : Reflects unit (bodies_of file) index.kept (rows_after items)

-- what a file says of its rows
abbrev pub FileAnswers : Name → Option (List ℕ) → Result Index ChunkFault → Type 0
FileAnswers unit content (Ok index) = IfSome content (λ file. HasRows unit file index)
FileAnswers unit content (Err (Damaged kept computed)) = IfSome content (λ file. (place : ℕ) × (body : List ℕ) × IsFirstBad unit file place body × IsDamaged body kept computed)
FileAnswers unit content (Err (Spoiled place)) = IfSome content (λ file. IsSpoiled unit file place)
FileAnswers unit content (Err Fault) = Unit {0}
FileAnswers unit content (Err Memory) = Unit {0}
FileAnswers unit content (Err _) = ⊥

-- how the log stands then: started at Ok, and for want of memory no less than before
abbrev pub FileEnds : LogView → LogView → Result Index ChunkFault → Type 0
FileEnds old new (Ok index) = IsSome new.end
FileEnds old new (Err Memory) = IsSome old.end → IsSome new.end
FileEnds old new (Err _) = Unit {0}

-- a log of these bodies, which a crash leaves as it is
pub record IsWhole (bodies : List (List ℕ)) (images : Images) (file : List ℕ) : Type 0 where
  pub log : IsLogOf file bodies
  pub exactly : LeavesExactly file images

-- at Ok, and for want of memory where the file was whole before, the file is whole
abbrev pub FileSettles : {T : Type 0} → FileView → FileView → Result T ChunkFault → Type 0
FileSettles old new (Ok _) = IfSome old.content (λ was. IsSomeAnd new.content (IsWhole (bodies_of was) new.images))
FileSettles old new (Err Memory) = IfSome old.content (λ was. IsWhole (bodies_of was) old.images was → IsSomeAnd new.content (IsWhole (bodies_of was) new.images))
FileSettles old new (Err _) = Unit {0}
