-- The units of one volume that stand on one disk, by the words of their names.
use Rattle.std.specs.Prelude.{ℕ, ◌≡◌, ◌<◌, ◌==◌, max, Bool, false, cond, nat_eq, List, [], ◌∷◌, slice_index, Option, Some, None, option_map, Result, Ok, Err, MatchResult, IfErr, refl}
use Rattle.std.specs.Map.{lookup, set_value}
use Rattle.std.specs.Coded.{Coded, code_by, coded×, coded_ℕ, coded_list}
use Rattle.unit_id.specs.UnitName.{Name, IsName, packed}
use Rattle.unit_id.specs.declared.request.Request as sent
use Rattle.unit_id.specs.declared.answer.Answer as answered
use Rattle.disk_base.specs.Disk.{FileView}
use Rattle.disk_base.specs.declared.fault.NoMemory.{NoMemory}
use Rattle.chunk_store.specs.declared.fault.ChunkFault.{ChunkFault}
use Rattle.chunk_store.specs.Chunk.{ChunkCall}
use Rattle.chunk_store.specs.Kept.{shut_after}
use Rattle.blob_node.specs.declared.settled.Settled.{Settled}
use Rattle.blob_node.specs.HeldUnit.{UnitOver, coded_unit, is_released, UnitCall, Served, Restarted, StartsThrough, IsStartRefusal}

-- units by the words of their names
abbrev pub Entries : Type 0 → Type 0
Entries F = List (ℕ × UnitOver F)

-- the unit of this word
abbrev pub at_word : {F : Type 0} → ℕ → Entries F → Option (UnitOver F)
at_word word units = lookup (nat_eq word) units

-- the unit of this name
abbrev pub unit_at : {F : Type 0} → Entries F → Name → Option (UnitOver F)
unit_at units name = at_word (packed name) units

-- memory knows that this unit is released, where there is one
abbrev pub knows_released : {F : Type 0} → Option (UnitOver F) → Bool
knows_released (Some unit) = is_released unit
knows_released None = false

-- the greatest epoch of an index among these units, 0 where there is none
abbrev pub greatest_of : {F : Type 0} → Entries F → ℕ → ℕ
greatest_of [] index = 0
greatest_of (entry ∷ rest) index =
    cond (entry.1.chunk.unit.index == index) (max entry.1.chunk.unit.epoch (greatest_of rest index)) (greatest_of rest index)

-- the volume, the units, and for how many more there is room
pub record TableOver (F : Type 0) : Type 0 where
  pub vid : ℕ
  pub units : Entries F
  pub spare : ℕ

abbrev pub coded_table : {F : Type 0} → Coded F → Coded (TableOver F)
coded_table {F} file =
    code_by (ℕ × (Entries F × ℕ)) (coded× coded_ℕ (coded× (coded_list (coded× coded_ℕ (coded_unit file))) coded_ℕ))
    (λ table. (table.vid, (table.units, table.spare)))
    (λ parts. record { vid = parts.0; units = parts.1.0; spare = parts.1.1 }) (λ _. refl)

-- ---- what holds of the table

-- a unit stands under the word of its name, which is one of the volume
pub record IsNamed {F : Type 0} (vid word : ℕ) (unit : UnitOver F) : Type 0 where
  pub word_is : word ≡ packed unit.chunk.unit
  pub name : IsName unit.chunk.unit
  pub vid_is : unit.chunk.unit.vid ≡ vid

abbrev pub AreNamed : {F : Type 0} → ℕ → Entries F → Type 0
AreNamed vid [] = Unit {0}
AreNamed vid (entry ∷ rest) = IsNamed vid entry.0 entry.1 × AreNamed vid rest

-- the greatest epochs are kept by index
abbrev pub AreGreatest : {F : Type 0} → List ℕ → Entries F → Type 0
AreGreatest greatest units = (index : ℕ) → index < 256 → slice_index greatest index ≡ greatest_of units index

-- ---- calls on one unit of the table

-- the unit of a word is replaced by one of its name, and no other
pub record Replaces {F : Type 0} (word : ℕ) (old new : TableOver F) (was now : UnitOver F) : Type 0 where
  pub found : at_word word old.units ≡ Some was
  pub units : new.units ≡ set_value (nat_eq word) old.units now
  pub unit : now.chunk.unit ≡ was.chunk.unit
  pub vid : new.vid ≡ old.vid

-- a unit serves a request
pub record ServesIn {F : Type 0} (seen : F → FileView) (word : ℕ) (request : sent.Request) (have : ℕ) (old new : TableOver F) (found : Option Bool) (result : Result answered.Answer NoMemory) : Type 0 where
  pub was : UnitOver F
  pub now : UnitOver F
  pub replaces : Replaces word old new was now
  pub call : UnitCall (seen was.chunk.log.file) (seen now.chunk.log.file) result
  pub served : Served seen request have was now found result

-- a unit is started; the record that was in doubt is told where there was one
abbrev pub Tells : {F : Type 0} → UnitOver F → Result Bool ChunkFault → Result (Option Settled) ChunkFault → Type 0
Tells was (Ok found) (Ok told) = told ≡ option_map (λ _. record { unit = was.chunk.unit; found = found }) was.doubt
Tells was (Err fault) (Err other) = fault ≡ other
Tells was _ _ = ⊥

pub record StartsOne {F : Type 0} (seen : F → FileView) (was now : UnitOver F) (result : Result (Option Settled) ChunkFault) : Type 0 where
  pub started : Result Bool ChunkFault
  pub unit : now.chunk.unit ≡ was.chunk.unit
  pub call : ChunkCall (seen was.chunk.log.file) (seen now.chunk.log.file) started
  pub ends : MatchResult started (λ _. now.chunk.is_shut ≡ false) (λ fault. now.chunk.is_shut ≡ shut_after fault was.chunk.is_shut)
  pub named : IfErr started IsStartRefusal
  pub restarted : Restarted seen was now started
  pub through : StartsThrough seen was now
  pub tells : Tells was started result

pub record StartsIn {F : Type 0} (seen : F → FileView) (word : ℕ) (old new : TableOver F) (result : Result (Option Settled) ChunkFault) : Type 0 where
  pub was : UnitOver F
  pub now : UnitOver F
  pub replaces : Replaces word old new was now
  pub starts : StartsOne seen was now result
