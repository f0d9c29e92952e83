-- How a volume's entry is made in a new file.
use Rattle.std.specs.Prelude.{ℕ, ◌≡◌, ◌<◌, ◌≤◌, length, false, List, [], ◌∷◌, None, Some, Result, Ok, Err, IfSome, IsSome, IsSomeAnd}
use Rattle.disk_base.specs.Disk.{FileView, Lasts}
use Rattle.disk_base.specs.Faults.{Rose}
use Rattle.unit_id.specs.Place.{Location}
use Rattle.gate_log.specs.LogFile.{IsLogOf, end_place}
use Rattle.gate_log.specs.GateLog.{LogOver, HasBodies, shown}
use Rattle.volume_entry.specs.Manager.{ManagerRecord, fresh_manager}
use Rattle.volume_entry.specs.Spelling.{Spells}
use Rattle.volume_entry.specs.RecordBytes.{record_of}
use Rattle.volume_entry.specs.TableParts.{part_of, shape_of}
use Rattle.volume_entry.specs.HeardMemory.{HeardMemory}
use Rattle.volume_entry.specs.Book.{MayHaveRecord}
use Rattle.volume_entry.specs.BookStart.{IsForgetful}
use Rattle.volume_entry.specs.Entry.{EntryOver, Stands, is_broken}
use Rattle.code_mode.specs.declared.mode.Mode.{Mode}
use Rattle.volume_entry.specs.declared.record.LogRecord.{LogRecord}
use Rattle.volume_entry.specs.declared.shape.Shape.{Shape}
use Rattle.volume_entry.specs.declared.table.Table.{Table}
use Rattle.volume_entry.specs.declared.fault.EntryFault.{EntryFault}
use Rattle.volume_entry.specs.declared.fault.EntryFault.TheVariants as faults

-- a file is new: it is empty, where it tells its bytes
abbrev pub IsNew : FileView → Type 0
IsNew file = IfSome file.content (λ bytes. bytes ≡ [])

-- a log with no more than the record of the making ends here at the latest
abbrev pub last_first_end : ℕ
last_first_end = 384

-- What is in memory before the file is touched: the record of the making, the table that it leaves, and a memory in which nothing was heard.
abbrev pub IsReady : Shape → List Location → LogRecord × Table × HeardMemory → Type 0
IsReady shape homes ready =
    (record_of ready.0 ≡ ManagerRecord.Made homes) × (part_of ready.1 ≡ fresh_manager homes) × IsForgetful (shape_of shape) (part_of ready.1) ready.2

module _ {E : Type 0} (seen : E → FileView) where
  -- the entry of a volume as made with these homes: no disk is broken, and nothing was heard
  pub record IsMade (vid : ℕ) (shape : Shape) (homes : List Location) (file : E) (entry : EntryOver E) : Type 0 where
    pub vid_is : entry.book.vid ≡ vid
    pub shape_is : entry.book.shape ≡ shape
    pub part_is : entry.book.part ≡ fresh_manager homes
    pub open_ : IsSome entry.book.log.end
    pub early : IfSome entry.book.log.end (λ place. place ≤ last_first_end)
    pub certain : entry.book.doubt ≡ None
    pub unheard : IsForgetful (shape_of shape) entry.book.part entry.heard
    pub unbroken : (disk : ℕ) → is_broken entry.broken disk ≡ false
    pub flags : length entry.broken ≡ 65
    pub faults : (seen entry.book.log.file).faults ≡ (seen file).faults
    pub lasts : Lasts (seen file) (seen entry.book.log.file)
    pub stands : IfSome (seen file).content (λ _. Stands seen entry (fresh_manager homes))

  -- where the first file told its bytes, those of the other are a log's without a record
  abbrev pub LeftEmpty : E → E → Type 0
  LeftEmpty old new = IfSome (seen old).content (λ _. IsSomeAnd (seen new).content (λ bytes. IsLogOf bytes []))

  -- .. or with this one
  abbrev pub MayHaveFirst : ℕ → Mode → ManagerRecord → E → E → Type 0
  MayHaveFirst vid mode item old new = IfSome (seen old).content (λ _. IsSomeAnd (seen new).content (MayHaveRecord vid mode [] item))

  -- A volume was to be made. A fault leaves the file of a log without a record, or with the one of the making; want of memory one without. Only a file that
  -- doesn't tell its bytes may turn out not to be new.
  abbrev pub Makes : ℕ → Shape → List Location → E → Result (EntryOver E) (EntryFault × E) → Type 0
  Makes vid shape homes file (Ok entry) = IsMade vid shape homes file entry
  Makes vid shape homes file (Err (faults.Fault, left)) = Rose (seen file).faults (seen left).faults × MayHaveFirst vid shape.mode (ManagerRecord.Made homes) file left
  Makes vid shape homes file (Err (faults.Memory, left)) = ((seen left).faults ≡ (seen file).faults) × LeftEmpty file left
  Makes vid shape homes file (Err (faults.Spoiled place, left)) = ((seen left).faults ≡ (seen file).faults) × ((seen file).content ≡ None)
  Makes vid shape homes file (Err (faults.Shut, left)) = ⊥

  -- ---- parts of it

  -- the log over a new file is started, and it is empty
  abbrev pub Opens : LogOver E → LogOver E → Result (Unit {0}) EntryFault → Type 0
  Opens old new (Ok _) = (new.end ≡ Some (end_place [])) × IfSome (seen old.file).content (λ _. HasBodies (shown seen new) [])
  Opens old new (Err faults.Fault) = LeftEmpty old.file new.file
  Opens old new (Err faults.Memory) = LeftEmpty old.file new.file
  Opens old new (Err (faults.Spoiled place)) = (seen old.file).content ≡ None
  Opens old new (Err faults.Shut) = ⊥

  -- a log's only body spells this record
  abbrev pub HasFirst : ℕ → Mode → ManagerRecord → LogOver E → Type 0
  HasFirst vid mode item log = (body : List ℕ) × Spells vid mode item body × HasBodies (shown seen log) (body ∷ [])

  -- a record was to be the first of a log over a new file
  abbrev pub Begins : ℕ → Mode → ManagerRecord → LogOver E → LogOver E → Result (Unit {0}) EntryFault → Type 0
  Begins vid mode item old new (Ok _) = IsSomeAnd new.end (λ end. end_place [] < end) × IfSome (seen old.file).content (λ _. HasFirst vid mode item new)
  Begins vid mode item old new (Err faults.Fault) = MayHaveFirst vid mode item old.file new.file
  Begins vid mode item old new (Err faults.Memory) = LeftEmpty old.file new.file
  Begins vid mode item old new (Err (faults.Spoiled place)) = (seen old.file).content ≡ None
  Begins vid mode item old new (Err faults.Shut) = ⊥
