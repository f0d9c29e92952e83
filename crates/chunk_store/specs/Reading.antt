-- What the reading of a chunk's records answers.
use Rattle.std.specs.Prelude.{ℕ, ◌≡◌, Bool, false, List, [], ◌∷◌, ◌++◌, Result, Ok, Err}
use Rattle.unit_id.specs.UnitName.{Name}
use Rattle.gate_log.specs.LogFile.{end_place}
use Rattle.shard_record.specs.Spelling.{Spells, unit_of}
use Rattle.shard_record.specs.declared.record.ShardRecord.{ShardRecord}
use Rattle.shard_record.specs.declared.record.ShardRecord.TheVariants.{Shard}
use Rattle.shard_record.specs.declared.record.RecordFault.{RecordFault}
use Rattle.shard_record.specs.declared.record.RecordFault.TheVariants as record_fault
use Rattle.chunk_store.specs.Chunk.{IsDamaged}
use Rattle.chunk_store.specs.declared.fault.ChunkFault.{ChunkFault}
use Rattle.chunk_store.specs.declared.fault.ChunkFault.TheVariants.{Fault, Damaged, Spoiled, Memory}

-- what bytes that spell no record make of the chunk at that place
abbrev pub fault_by_record : ℕ → RecordFault → ChunkFault
fault_by_record place (record_fault.BadSum kept computed) = Damaged kept computed
fault_by_record place record_fault.Memory = Memory
fault_by_record place _ = Spoiled place

-- no sum of these bytes is wrong
abbrev pub IsUndamaged : List ℕ → Type 0
IsUndamaged body = (kept computed : ℕ) → IsDamaged body kept computed → ⊥

-- what bytes at a place say as a record of the unit, behind a release or not
abbrev pub RecordAnswers : Name → Bool → ℕ → List ℕ → Result ShardRecord ChunkFault → Type 0
RecordAnswers unit is_released place body (Ok item) = Spells item body × (unit_of item ≡ unit) × (is_released ≡ false)
RecordAnswers unit is_released place body (Err (Damaged kept computed)) = IsDamaged body kept computed × ((item : ShardRecord) → Spells item body → ⊥)
RecordAnswers unit is_released place body (Err (Spoiled at)) =
    (at ≡ place) × IsUndamaged body × ((item : ShardRecord) → Spells item body → unit_of item ≡ unit → is_released ≡ false → ⊥)
RecordAnswers unit is_released place body (Err Memory) = Unit {0}
RecordAnswers unit is_released place body (Err _) = ⊥

-- what bytes at a place say as the shard of a blob
abbrev pub ShardAnswers : Name → ℕ → ℕ → ℕ → List ℕ → Result (List ℕ) ChunkFault → Type 0
ShardAnswers unit bid blob_size place body (Ok bytes) = Spells (Shard bid unit blob_size bytes) body
ShardAnswers unit bid blob_size place body (Err (Damaged kept computed)) = IsDamaged body kept computed × ((item : ShardRecord) → Spells item body → ⊥)
ShardAnswers unit bid blob_size place body (Err (Spoiled at)) =
    (at ≡ place) × IsUndamaged body × ((bytes : List ℕ) → Spells (Shard bid unit blob_size bytes) body → ⊥)
ShardAnswers unit bid blob_size place body (Err Memory) = Unit {0}
ShardAnswers unit bid blob_size place body (Err _) = ⊥

-- the causes for which no body is had from a place, whatever the file tells
abbrev pub IsBodyFault : ℕ → ChunkFault → Type 0
IsBodyFault place Fault = Unit {0}
IsBodyFault place (Spoiled at) = at ≡ place
IsBodyFault place Memory = Unit {0}
IsBodyFault place _ = ⊥

-- this body and this next place are had, if the file doesn't fail and there is memory
abbrev pub BodyAnswers : List ℕ → ℕ → Result (List ℕ × ℕ) ChunkFault → Type 0
BodyAnswers body next (Ok found) = (found.0 ≡ body) × (found.1 ≡ next)
BodyAnswers body next (Err Fault) = Unit {0}
BodyAnswers body next (Err Memory) = Unit {0}
BodyAnswers body next (Err _) = ⊥

-- each body is had from its place
abbrev pub BodiesInOrder : List (List ℕ) → ℕ → Result (List ℕ × ℕ) ChunkFault → Type 0
BodiesInOrder bodies place result = (before : List (List ℕ)) (body : List ℕ) (after : List (List ℕ)) →
    bodies ≡ before ++ body ∷ after → place ≡ end_place before → BodyAnswers body (end_place (before ++ body ∷ [])) result

-- the causes for which the shard at a place can't be read, whatever the file tells
abbrev pub IsShardFault : ℕ → ChunkFault → Type 0
IsShardFault place Fault = Unit {0}
IsShardFault place (Damaged kept computed) = (body : List ℕ) × IsDamaged body kept computed
IsShardFault place (Spoiled at) = at ≡ place
IsShardFault place Memory = Unit {0}
IsShardFault place _ = ⊥

-- the shard whose record stands at a place is found, if the file doesn't fail and there is memory
abbrev pub FindsShard : List ℕ → Result (List ℕ) ChunkFault → Type 0
FindsShard bytes (Ok found) = found ≡ bytes
FindsShard bytes (Err Fault) = Unit {0}
FindsShard bytes (Err Memory) = Unit {0}
FindsShard bytes (Err _) = ⊥
