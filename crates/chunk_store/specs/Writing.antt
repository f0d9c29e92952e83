-- What the writing of a record answers and leaves.
use Rattle.std.specs.Prelude.{ℕ, ◌+◌, ◌≡◌, ◌⊎◌, true, List, [], ◌∷◌, ◌++◌, Option, Some, Result, Ok, Err, OnOk, IfSome, IsSomeAnd}
use Rattle.disk_base.specs.Disk.{AtEachMoment, OnlyReads}
use Rattle.gate_log.specs.LogFile.{IsLogOf}
use Rattle.gate_log.specs.GateLog.{LogView, HasBodies}
use Rattle.gate_log.specs.declared.fault.LogFault.{LogFault}
use Rattle.gate_log.specs.declared.fault.LogFault.TheVariants as log
use Rattle.shard_record.specs.Spelling.{Spells}
use Rattle.shard_record.specs.declared.record.ShardRecord.{ShardRecord}
use Rattle.chunk_store.specs.Chunk.{is_full, record_size}
use Rattle.chunk_store.specs.declared.fault.ChunkFault.{ChunkFault}
use Rattle.chunk_store.specs.declared.fault.ChunkFault.TheVariants.{Fault, Full, Memory}

-- why a log that is started takes no record
abbrev pub IsAppendFault : LogFault → Type 0
IsAppendFault log.Fault = Unit {0}
IsAppendFault (log.Full end) = Unit {0}
IsAppendFault log.Memory = Unit {0}
IsAppendFault _ = ⊥

-- and what the chunk answers then
abbrev pub fault_by_append : LogFault → ChunkFault
fault_by_append (log.Full end) = Full end
fault_by_append log.Memory = Memory
fault_by_append _ = Fault

-- how a log that was started stands then
abbrev pub AppendEnds : ShardRecord → LogView → LogView → Result ℕ ChunkFault → Type 0
AppendEnds item old new (Ok place) = (old.end ≡ Some place) × (new.end ≡ Some (place + 5 + record_size item))
AppendEnds item old new (Err Fault) = Unit {0}
AppendEnds item old new (Err (Full end)) = (old.end ≡ Some end) × (is_full item end ≡ true) × (new.end ≡ old.end) × OnlyReads old.file new.file
AppendEnds item old new (Err Memory) = (new.end ≡ old.end) × OnlyReads old.file new.file
AppendEnds item old new (Err _) = ⊥

-- a full file takes no record
abbrev pub RefusesFull : {T : Type 0} → ShardRecord → Option ℕ → Result T ChunkFault → Type 0
RefusesFull item end result = IfSome end (λ place. is_full item place ≡ true → (result ≡ Err (Full place)) ⊎ (result ≡ Err Memory))

-- a file is a log of the bodies, without the spelling of a record or with it at the end
abbrev pub MayHaveRecord : List (List ℕ) → ShardRecord → List ℕ → Type 0
MayHaveRecord bodies item file = IsLogOf file bodies ⊎ ((body : List ℕ) × Spells item body × IsLogOf file (bodies ++ body ∷ []))

pub record AppendsRecord {T : Type 0} (bodies : List (List ℕ)) (item : ShardRecord) (old new : LogView) (result : Result T ChunkFault) : Type 0 where
  pub added : OnOk result ((body : List ℕ) × Spells item body × HasBodies new (bodies ++ body ∷ []))
  pub stands : IsSomeAnd new.file.content (MayHaveRecord bodies item)
  pub any_moment : AtEachMoment old.file new.file (MayHaveRecord bodies item)
