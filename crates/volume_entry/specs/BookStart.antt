-- How the records of a book are read.
use Rattle.std.specs.Prelude.{ℕ, ◌≡◌, ◌<◌, ◌^◌, List, [], ◌∷◌, ◌++◌, Bool, true, false, not, ◌==◌, nat_lt, Option, None, Some, is_some, Result, Ok, Err, IfOk, OnOk, ◌≤◌, IsSome, IsSomeAnd}
use Rattle.disk_base.specs.Disk.{FileView}
use Rattle.gate_log.specs.LogFile.{IsLogOf, end_place}
use Rattle.gate_log.specs.GateLog.{LogView, HasBodies}
use Rattle.gate_log.specs.declared.fault.LogFault.{LogFault}
use Rattle.gate_log.specs.declared.fault.LogFault.TheVariants as logs
use Rattle.volume_entry.specs.Manager.{ManagerRecord, Manager, LeadsBy, IsLog, nothing_heard, written}
use Rattle.code_mode.specs.VolumeShape.{VolumeShape}
use Rattle.volume_entry.specs.HeardMemory.{HeardMemory, Remembers}
use Rattle.volume_entry.specs.TableParts.{part_of, shape_of}
use Rattle.volume_entry.specs.Book.{BookOver, Keeps, AreSpelled, CountsFault, IsSoundPart, LeavesEnd}
use Rattle.volume_entry.specs.declared.shape.Shape.{Shape}
use Rattle.volume_entry.specs.declared.table.Table.{Table}
use Rattle.volume_entry.specs.declared.fault.EntryFault.{EntryFault}
use Rattle.volume_entry.specs.declared.fault.EntryFault.TheVariants as faults

-- no log is started that ends behind this place
abbrev pub last_start : ℕ
last_start = 2 ^ 39

-- why a log doesn't start
abbrev pub IsStartFault : LogFault → Type 0
IsStartFault logs.Fault = Unit {0}
IsStartFault logs.BadHead = Unit {0}
IsStartFault (logs.BadChain place) = Unit {0}
IsStartFault logs.Memory = Unit {0}
IsStartFault _ = ⊥

-- and what the book answers then
abbrev pub fault_by_start : LogFault → EntryFault
fault_by_start logs.BadHead = faults.Spoiled 0
fault_by_start (logs.BadChain place) = faults.Spoiled place
fault_by_start logs.Memory = faults.Memory
fault_by_start _ = faults.Fault

-- the causes for which a start gives up
abbrev pub IsStartCause : EntryFault → Type 0
IsStartCause faults.Shut = ⊥
IsStartCause _ = Unit {0}

-- this body and this next place are had, if the file doesn't fail and there is memory
abbrev pub BodyAnswers : List ℕ → ℕ → Result (List ℕ × ℕ) EntryFault → Type 0
BodyAnswers body next (Ok found) = (found.0 ≡ body) × (found.1 ≡ next)
BodyAnswers body next (Err faults.Fault) = Unit {0}
BodyAnswers body next (Err faults.Memory) = Unit {0}
BodyAnswers body next (Err _) = ⊥

-- each body is had from its place
abbrev pub BodiesInOrder : List (List ℕ) → ℕ → Result (List ℕ × ℕ) EntryFault → Type 0
BodiesInOrder bodies place result = (before : List (List ℕ)) (body : List ℕ) (after : List (List ℕ)) →
    bodies ≡ before ++ body ∷ after → place ≡ end_place before → BodyAnswers body (end_place (before ++ body ∷ [])) result

-- The bodies up to a place were read, and the others spell legal records that lead from there to a part.
pub record IsReadTo (vid : ℕ) (shape : Shape) (bodies : List (List ℕ)) (place : ℕ) (now part : Manager) : Type 0 where
  pub before : List (List ℕ)
  pub after : List (List ℕ)
  pub bodies_are : bodies ≡ before ++ after
  pub place_is : place ≡ end_place before
  pub left : List ManagerRecord
  pub spelled : AreSpelled vid shape.mode left after
  pub leads : LeadsBy (shape_of shape) now left part

-- the first body of a log that is told
abbrev pub FirstAnswers : ℕ → Shape → List (List ℕ) → Result (Table × ℕ) EntryFault → Type 0
FirstAnswers vid shape bodies (Ok found) = (items : List ManagerRecord) (part : Manager) → AreSpelled vid shape.mode items bodies → IsLog (shape_of shape) items part
    → IsReadTo vid shape bodies found.1 (part_of found.0) part
FirstAnswers vid shape bodies (Err faults.Fault) = Unit {0}
FirstAnswers vid shape bodies (Err faults.Memory) = Unit {0}
FirstAnswers vid shape bodies (Err _) = (items : List ManagerRecord) (part : Manager) → AreSpelled vid shape.mode items bodies → IsLog (shape_of shape) items part → ⊥

-- a further one
abbrev pub NextAnswers : ℕ → Shape → List (List ℕ) → ℕ → Manager → Manager → Result ℕ EntryFault → Type 0
NextAnswers vid shape bodies place old new (Ok next) = (part : Manager) → IsReadTo vid shape bodies place old part → place < end_place bodies → IsReadTo vid shape bodies next new part
NextAnswers vid shape bodies place old new (Err faults.Fault) = Unit {0}
NextAnswers vid shape bodies place old new (Err faults.Memory) = Unit {0}
NextAnswers vid shape bodies place old new (Err _) = (part : Manager) → IsReadTo vid shape bodies place old part → place < end_place bodies → ⊥

module _ {T : Type 0} (part_in : T → Manager) where
  -- all of them
  abbrev pub AllAnswer : ℕ → Manager → Result T EntryFault → Type 0
  AllAnswer end part (Ok found) = part_in found ≡ part
  AllAnswer end part (Err faults.Fault) = Unit {0}
  AllAnswer end part (Err faults.Memory) = Unit {0}
  AllAnswer end part (Err (faults.Spoiled place)) = (last_start < place) × (place ≡ end)
  AllAnswer end part (Err _) = ⊥

  -- A start over a file that is a log of these bodies, which spell legal records that lead to a part.
  abbrev pub StartAnswers : List (List ℕ) → Manager → LogView → LogView → Result T EntryFault → Type 0
  StartAnswers bodies part old new (Ok found) = (part_in found ≡ part) × HasBodies new bodies
  StartAnswers bodies part old new (Err faults.Memory) = IsSomeAnd new.file.content (λ file. IsLogOf file bodies) × (HasBodies old bodies → HasBodies new bodies)
  StartAnswers bodies part old new (Err faults.Fault) = IsSomeAnd new.file.content (λ file. IsLogOf file bodies)
  StartAnswers bodies part old new (Err (faults.Spoiled place)) = (last_start < place) × (place ≡ end_place bodies) × IsSomeAnd new.file.content (λ file. IsLogOf file bodies)
  StartAnswers bodies part old new (Err _) = ⊥

  abbrev pub IsStartOf : ℕ → Shape → LogView → LogView → Result T EntryFault → Type 0
  IsStartOf vid shape old new result = (bodies : List (List ℕ)) (items : List ManagerRecord) (part : Manager) → IsSomeAnd old.file.content (λ file. IsLogOf file bodies)
      → AreSpelled vid shape.mode items bodies → IsLog (shape_of shape) items part → StartAnswers bodies part old new result

-- what a table that was read fits
abbrev pub IsSoundTable : Shape → Option ℕ → Result Table EntryFault → Type 0
IsSoundTable shape end (Ok table) = IsSome end × IsSoundPart (shape_of shape) end (part_of table)
IsSoundTable shape end (Err _) = Unit {0}

-- a log that starts ends early enough
abbrev pub EndsInTime : {T : Type 0} → Option ℕ → Result T EntryFault → Type 0
EndsInTime end result = OnOk result (IsSomeAnd end (λ place. place ≤ last_start))

-- a log of bodies that spell legal records is spoiled only at its end, where that is behind the last start
abbrev pub IsSpoiledAtEnd : {T : Type 0} → ℕ → Shape → FileView → Result T EntryFault → Type 0
IsSpoiledAtEnd vid shape old (Err (faults.Spoiled place)) = (bodies : List (List ℕ)) (items : List ManagerRecord) (part : Manager) → IsSomeAnd old.content (λ file. IsLogOf file bodies)
    → AreSpelled vid shape.mode items bodies → IsLog (shape_of shape) items part → (last_start < place) × (place ≡ end_place bodies)
IsSpoiledAtEnd vid shape old _ = Unit {0}

-- memory stands for every part of a volume with the lock of this one under which nothing was heard
abbrev pub IsForgetful : VolumeShape → Manager → HeardMemory → Type 0
IsForgetful shape part heard = (m : Manager) → m.heard ≡ nothing_heard → m.marks ≡ [] → m.lock ≡ part.lock → Remembers shape.total heard m

-- ---- the start of a book

-- the log ends behind the place of the record in doubt
abbrev pub is_behind : Option ℕ → Option ℕ → Bool
is_behind (Some end) (Some place) = nat_lt place end
is_behind _ _ = false

-- the log isn't started, or ends elsewhere
abbrev pub ends_differ : Option ℕ → Option ℕ → Bool
ends_differ (Some a) (Some b) = not (a == b)
ends_differ _ _ = true

-- only want of memory leaves a log as it was, where it was started and ends where it did
abbrev pub shut_after : EntryFault → Option ℕ → Option ℕ → Bool
shut_after faults.Memory was end = ends_differ was end
shut_after _ was end = true

-- what the records say, with the one in doubt where it was found
abbrev pub found_part : Bool → Option ManagerRecord → Manager → Manager
found_part true (Some item) part = written item part
found_part _ _ part = part

module _ {E : Type 0} (seen : E → FileView) where
  -- for which part a book stands after a start
  abbrev pub Started : Manager → Bool → Option ManagerRecord → BookOver E → Result (Bool × HeardMemory) EntryFault → Type 0
  Started part is_shut doubt new (Ok found) = (found.0 ≡ true → is_some doubt ≡ true) × Keeps seen new (found_part found.0 doubt part) false None
  Started part is_shut doubt new (Err faults.Fault) = Keeps seen new part true doubt
  Started part is_shut doubt new (Err faults.Memory) = Keeps seen new part is_shut doubt
  Started part is_shut doubt new (Err (faults.Spoiled place)) = (last_start < place) × Keeps seen new part true doubt
  Started part is_shut doubt new (Err _) = ⊥

  pub record StartsBook (old new : BookOver E) (result : Result (Bool × HeardMemory) EntryFault) : Type 0 where
    pub vid : new.vid ≡ old.vid
    pub shape : new.shape ≡ old.shape
    pub counts : CountsFault (seen old.log.file).faults (seen new.log.file).faults result
    pub end : LeavesEnd old.log.end new.log.end result
    pub heard : IfOk result (λ found. IsForgetful (shape_of new.shape) new.part found.1)
    pub told : (part : Manager) (is_shut : Bool) (doubt : Option ManagerRecord) → Keeps seen old part is_shut doubt → Started part is_shut doubt new result
