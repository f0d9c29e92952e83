-- The code's records as the protocol sees them, and what the reading of their parts finds.
use Rattle.std.specs.Prelude.{ℕ, ◌≡◌, ◌^◌, ◌<◌, List, length, Option, Some, None}
use Rattle.code_mode.specs.declared.mode.Mode.{Mode}
use Rattle.volume_entry.specs.Manager.{ManagerRecord}
use Rattle.volume_entry.specs.Spelling.{Spells, Fits, kind_of, fields_of}
use Rattle.volume_entry.specs.declared.record.LogRecord as kept
use Rattle.volume_entry.specs.declared.record.LogRecord.TheVariants as records

abbrev pub record_of : kept.LogRecord → ManagerRecord
record_of (records.Made homes) = ManagerRecord.Made homes.items
record_of (records.Leased end) = ManagerRecord.Leased end
record_of (records.Locked task lock grants) = ManagerRecord.Locked task lock grants.items
record_of (records.Retargeted grant) = ManagerRecord.Retargeted grant
record_of records.Swapped = ManagerRecord.Swapped
record_of records.Unlocked = ManagerRecord.Unlocked
record_of (records.Asked bid) = ManagerRecord.Asked bid
record_of (records.Committed bid) = ManagerRecord.Committed bid

-- a record of this kind has these fields
pub record HasFields (vid : ℕ) (mode : Mode) (kind : ℕ) (fields : List ℕ) (item : ManagerRecord) : Type 0 where
  pub kind_is : kind_of item ≡ kind
  pub fields_are : fields_of vid mode item ≡ fields
  pub fits : Fits item

-- a record that has them, or none does
abbrev pub FieldsAnswer : ℕ → Mode → ℕ → List ℕ → Option kept.LogRecord → Type 0
FieldsAnswer vid mode kind fields (Some item) = HasFields vid mode kind fields (record_of item)
FieldsAnswer vid mode kind fields None = (item : ManagerRecord) → HasFields vid mode kind fields item → ⊥

-- a record that the bytes spell, or they spell none
abbrev pub ReadAnswer : ℕ → Mode → List ℕ → Option kept.LogRecord → Type 0
ReadAnswer vid mode bytes (Some item) = Spells vid mode (record_of item) bytes
ReadAnswer vid mode bytes None = (item : ManagerRecord) → Spells vid mode item bytes → ⊥

-- the count of its homes or grants fits a byte
abbrev pub IsShort : ManagerRecord → Type 0
IsShort (ManagerRecord.Made homes) = length homes < 2 ^ 8
IsShort (ManagerRecord.Locked task number grants) = length grants < 2 ^ 8
IsShort _ = Unit {0}
