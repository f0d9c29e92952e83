-- The book of a volume: its log, and the manager's part that the records of the log leave.
use Rattle.std.specs.Prelude.{ℕ, ◌≡◌, ◌⊎◌, ◌≤◌, ◌<◌, ◌+◌, Bool, true, false, List, [], ◌∷◌, ◌++◌, length, Option, None, Some, is_none, is_some, Result, Ok, Err, IfSome, IsSome, IsSomeAnd}
use Rattle.disk_base.specs.Disk.{FileView, AtEachMoment}
use Rattle.disk_base.specs.Faults.{Rose}
use Rattle.gate_log.specs.LogFile.{IsLogOf, end_place, longest_body, longest_file}
use Rattle.gate_log.specs.GateLog.{LogOver, LogView, HasBodies, shown}
use Rattle.gate_log.specs.declared.fault.LogFault.{LogFault}
use Rattle.gate_log.specs.declared.fault.LogFault.TheVariants as logs
use Rattle.unit_id.specs.Lists.{IsIn}
use Rattle.unit_id.specs.Place.{Location}
use Rattle.code_mode.specs.VolumeShape.{VolumeShape, last_epoch}
use Rattle.code_mode.specs.declared.mode.Mode.{Mode}
use Rattle.volume_entry.specs.Laws.{IsWithinLast}
use Rattle.volume_entry.specs.Manager.{ManagerRecord, Manager, Transfer, IsDisk, IsLegal, IsLog, transfers_of, written}
use Rattle.volume_entry.specs.Spelling.{Spells, summed_part}
use Rattle.volume_entry.specs.TableParts.{shape_of}
use Rattle.volume_entry.specs.declared.shape.Shape.{Shape}
use Rattle.volume_entry.specs.declared.fault.EntryFault.{EntryFault}
use Rattle.volume_entry.specs.declared.fault.EntryFault.TheVariants as faults

-- the volume's number, mode and disks, the log, what its records say, and the place of a record in doubt
pub record BookOver (E : Type 0) : Type 0 where
  pub vid : ℕ
  pub shape : Shape
  pub log : LogOver E
  pub part : Manager
  pub doubt : Option ℕ

-- a log that is shut has no end
abbrev pub end_unless : Bool → Option ℕ → Option ℕ
end_unless true end = None
end_unless false end = end

-- an epoch with which a unit may be named
pub record IsEpoch (epoch : ℕ) : Type 0 where
  pub first : 1 ≤ epoch
  pub last : epoch ≤ last_epoch

-- the units at these homes may be named
abbrev pub AreNamed : List Location → Type 0
AreNamed homes = (home : Location) → IsIn home homes → IsEpoch home.epoch

-- the old units and destinations of these transfers may be
abbrev pub AreMovesNamed : List Transfer → Type 0
AreMovesNamed transfers = (t : Transfer) → IsIn t transfers → IsEpoch t.old.epoch × IsEpoch t.dest.epoch

-- these homes are on disks of the volume
abbrev pub AreOnDisks : VolumeShape → List Location → Type 0
AreOnDisks shape homes = (home : Location) → IsIn home homes → IsDisk shape home.disk

-- a unit of the volume moves from one of its disks to one of them
pub record IsMoveWithin (shape : VolumeShape) (t : Transfer) : Type 0 where
  pub index : t.index < shape.total
  pub old : IsDisk shape t.old.disk
  pub dest : IsDisk shape t.dest.disk

abbrev pub AreMovesWithin : VolumeShape → List Transfer → Type 0
AreMovesWithin shape transfers = (t : Transfer) → IsIn t transfers → IsMoveWithin shape t

-- The units of a part are on disks of the volume. Its lock moves them between these, and no more of them than a volume can lose.
pub record IsPlaced (shape : VolumeShape) (part : Manager) : Type 0 where
  pub homes : AreOnDisks shape part.homes
  pub moves : AreMovesWithin shape (transfers_of part.lock)
  pub most : length (transfers_of part.lock) + shape.data_count ≤ shape.quorum

-- What holds of every part that a book has, whatever its file tells: a home for each unit, few moves, units that may be named, places of the volume,
-- epochs that fit, and no more swaps and locks than bytes of the log.
pub record IsSoundPart (shape : VolumeShape) (end : Option ℕ) (part : Manager) : Type 0 where
  pub homes : length part.homes ≡ shape.total
  pub moves : length (transfers_of part.lock) ≤ 9
  pub named : AreNamed part.homes
  pub moves_named : AreMovesNamed (transfers_of part.lock)
  pub placed : IsPlaced shape part
  pub greatest : IsWithinLast shape part.greatest
  pub version : IfSome end (λ place. part.version ≤ place)
  pub granted : IfSome end (λ place. part.granted ≤ place)

-- ---- what a file says

-- the bodies spell these records of the volume, one by one
abbrev pub AreSpelled : ℕ → Mode → List ManagerRecord → List (List ℕ) → Type 0
AreSpelled vid mode [] [] = Unit {0}
AreSpelled vid mode (item ∷ items) (body ∷ bodies) = Spells vid mode item body × AreSpelled vid mode items bodies
AreSpelled vid mode _ _ = ⊥

-- a file is a log of the bodies, without the spelling of a record or with it at the end
abbrev pub MayHaveRecord : ℕ → Mode → List (List ℕ) → ManagerRecord → List ℕ → Type 0
MayHaveRecord vid mode bodies item file = IsLogOf file bodies ⊎ ((body : List ℕ) × Spells vid mode item body × IsLogOf file (bodies ++ body ∷ []))

-- .. where one is in doubt
abbrev pub SaysRecords : ℕ → Mode → List (List ℕ) → Option ManagerRecord → List ℕ → Type 0
SaysRecords vid mode bodies None file = IsLogOf file bodies
SaysRecords vid mode bodies (Some item) file = MayHaveRecord vid mode bodies item file

-- a log that isn't shut has these bodies, and none is in doubt
pub record IsOpenWith (log : LogView) (bodies : List (List ℕ)) (doubt : Option ManagerRecord) : Type 0 where
  pub has : HasBodies log bodies
  pub certain : doubt ≡ None

-- The book stands for this part, shut or not, with this record in doubt: legal records that are in its log lead to the part, and the one in doubt
-- would stand behind them.
pub record Keeps {E : Type 0} (seen : E → FileView) (book : BookOver E) (part : Manager) (is_shut : Bool) (doubt : Option ManagerRecord) : Type 0 where
  pub items : List ManagerRecord
  pub legal : IsLog (shape_of book.shape) items part
  pub same : book.part ≡ part
  pub bodies : List (List ℕ)
  pub spelled : AreSpelled book.vid book.shape.mode items bodies
  pub shut : is_shut ≡ is_none book.log.end
  pub open_ : is_shut ≡ false → IsOpenWith (shown seen book.log) bodies doubt
  pub says : IsSomeAnd (seen book.log.file).content (SaysRecords book.vid book.shape.mode bodies doubt)
  pub known : is_some book.doubt ≡ is_some doubt
  pub place : IfSome book.doubt (λ place. place ≡ end_place bodies)
  pub doubtful : IfSome doubt (λ item. IsLegal (shape_of book.shape) part item)

-- ---- what calls answer and leave

abbrev pub is_fault : EntryFault → Bool
is_fault faults.Fault = true
is_fault _ = false

abbrev pub is_memory : EntryFault → Bool
is_memory faults.Memory = true
is_memory _ = false

-- the count of faults of a file rises exactly where the answer is a fault
abbrev pub CountsFault : {T : Type 0} → ℕ → ℕ → Result T EntryFault → Type 0
CountsFault before now (Err faults.Fault) = Rose before now
CountsFault before now _ = now ≡ before

-- how many bytes a record's spelling has
abbrev pub item_size : ℕ → Mode → ManagerRecord → ℕ
item_size vid mode item = 4 + length (summed_part vid mode item)

-- a body has so many bytes, and there is room for it in the file
abbrev pub HasRoomFor : ℕ → Option ℕ → Type 0
HasRoomFor size end = (size ≤ longest_body) × IsSomeAnd end (λ place. place + 6 + size ≤ longest_file)

-- how a log stands after it was to take a record: at Ok its end lies behind the place of the record
abbrev pub AppendEnds : LogView → LogView → Result ℕ EntryFault → Type 0
AppendEnds old new (Ok place) = (old.end ≡ Some place) × IsSomeAnd new.end (λ end. place < end)
AppendEnds old new (Err faults.Fault) = new.end ≡ None
AppendEnds old new (Err faults.Memory) = new.end ≡ old.end
AppendEnds old new (Err _) = ⊥

-- what a log of these bodies has then
abbrev pub AppendsItem : ℕ → Mode → ManagerRecord → List (List ℕ) → LogView → Result ℕ EntryFault → Type 0
AppendsItem vid mode item bodies new (Ok place) = (place ≡ end_place bodies) × (body : List ℕ) × Spells vid mode item body × HasBodies new (bodies ++ body ∷ [])
AppendsItem vid mode item bodies new (Err faults.Fault) = IsSomeAnd new.file.content (MayHaveRecord vid mode bodies item)
AppendsItem vid mode item bodies new (Err faults.Memory) = HasBodies new bodies
AppendsItem vid mode item bodies new (Err _) = ⊥

-- why a log with room takes no record
abbrev pub IsAppendFault : LogFault → Type 0
IsAppendFault logs.Fault = Unit {0}
IsAppendFault logs.Memory = Unit {0}
IsAppendFault _ = ⊥

-- the causes for which a record isn't written
abbrev pub IsWriteFault : EntryFault → Type 0
IsWriteFault faults.Fault = Unit {0}
IsWriteFault faults.Memory = Unit {0}
IsWriteFault _ = ⊥

-- and what the book answers then
abbrev pub fault_by_append : LogFault → EntryFault
fault_by_append logs.Memory = faults.Memory
fault_by_append _ = faults.Fault

-- the place of a record in doubt, after a write that was refused at this end
abbrev pub doubt_after : EntryFault → Option ℕ → Option ℕ → Option ℕ
doubt_after faults.Fault end doubt = end
doubt_after _ end doubt = doubt

-- a log that isn't shut ends at most so many bytes behind where it ended before
abbrev pub GrowsUpTo : ℕ → Option ℕ → Option ℕ → Type 0
GrowsUpTo most old new = IfSome new (λ end. IsSomeAnd old (λ place. end ≤ place + most))

-- .. and that of a book by a record's 128 bytes
abbrev pub EndGrows : Option ℕ → Option ℕ → Type 0
EndGrows old new = GrowsUpTo 128 old new

-- after an error a log ends where it did, or is shut
abbrev pub LeavesEnd : {T : Type 0} → Option ℕ → Option ℕ → Result T EntryFault → Type 0
LeavesEnd old new (Ok _) = Unit {0}
LeavesEnd old new (Err _) = IfSome new (λ end. old ≡ Some end)

-- a file that was a log of some bodies is one of the same
abbrev pub KeepsBodies : FileView → FileView → Type 0
KeepsBodies old new = (bodies : List (List ℕ)) → IsSomeAnd old.content (λ file. IsLogOf file bodies) → IsSomeAnd new.content (λ file. IsLogOf file bodies)

-- .. and so is what a crash at any moment leaves of it, if it isn't what one might have left before
abbrev pub CrashKeeps : FileView → FileView → Type 0
CrashKeeps old new = (bodies : List (List ℕ)) → IsSomeAnd old.content (λ file. IsLogOf file bodies) → AtEachMoment old new (λ image. old.images image ⊎ IsLogOf image bodies)

-- whenever a crash comes while a log is to take a record, its file is one of the bodies that the log had, without the record's spelling or with it
abbrev pub CrashAppends : ℕ → Mode → ManagerRecord → LogView → FileView → Type 0
CrashAppends vid mode item old new = (bodies : List (List ℕ)) → HasBodies old bodies → AtEachMoment old.file new (MayHaveRecord vid mode bodies item)

-- a log that isn't shut ends early enough to take any record but that of the making
abbrev pub HasRoom : Option ℕ → Type 0
HasRoom end = IsSomeAnd end (λ place. place + 128 ≤ longest_file)

module _ {E : Type 0} (seen : E → FileView) where
  -- how a book's log and part stand after it was to take a record
  abbrev pub WriteEnds : ManagerRecord → BookOver E → BookOver E → Result (Unit {0}) EntryFault → Type 0
  WriteEnds item old new (Ok _) = (new.part ≡ written item old.part) × IsSome new.log.end
  WriteEnds item old new (Err faults.Fault) = (new.part ≡ old.part) × (new.log.end ≡ None)
  WriteEnds item old new (Err faults.Memory) = (new.part ≡ old.part) × (new.log.end ≡ old.log.end)
  WriteEnds item old new (Err _) = ⊥

  -- for which part it stands then
  abbrev pub Wrote : ManagerRecord → Manager → BookOver E → Result (Unit {0}) EntryFault → Type 0
  Wrote item part new (Ok _) = Keeps seen new (written item part) false None
  Wrote item part new (Err faults.Fault) = Keeps seen new part true (Some item)
  Wrote item part new (Err faults.Memory) = Keeps seen new part false None
  Wrote item part new (Err _) = ⊥

  -- .. and while a book is to take one
  abbrev pub CrashLeaves : ManagerRecord → BookOver E → BookOver E → Type 0
  CrashLeaves item old new = CrashAppends old.vid old.shape.mode item (shown seen old.log) (seen new.log.file)

  -- a book was to take a record
  pub record WritesRecord (item : ManagerRecord) (old new : BookOver E) (result : Result (Unit {0}) EntryFault) : Type 0 where
    pub vid : new.vid ≡ old.vid
    pub shape : new.shape ≡ old.shape
    pub counts : CountsFault (seen old.log.file).faults (seen new.log.file).faults result
    pub ends : WriteEnds item old new result
    pub told : (part : Manager) → Keeps seen old part false None → Wrote item part new result
