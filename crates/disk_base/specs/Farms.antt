-- What a farm is seen as, and what the calls on it do.
use Rattle.std.specs.Prelude.{◌≡◌, ◌↔◌, ◌+◌, ◌-◌, ◌^◌, ◌≤◌, min, ℕ, Bool, true, false, List, Option, Some, None, IsTrue, Result, Ok, Err, IfOk, IsErrOf}
use Rattle.disk_base.specs.Faults.{Rose}
use Rattle.disk_base.specs.Places.{Place, Absent, Away, Kept, is_there, IsTold}
use Rattle.disk_base.specs.Shelves.{ShelfView, AllStay}
use Rattle.disk_base.specs.declared.fault.FarmFault.{FarmFault}
use Rattle.disk_base.specs.declared.fault.FarmFault.TheVariants.{NotEmpty, Failed}

-- A farm of shelves of type S, each named by a disk and a volume.
pub record FarmView (S : Type 0) : Type 0 where
  -- the shelf of this disk and volume is handed out now
  pub is_out : ℕ → ℕ → Bool
  -- whether there is a shelf with files there, and which one where it isn't out
  pub place : ℕ → ℕ → Place S
  -- an item was found in the root
  pub found_item : Bool
  -- its shelves are told
  pub is_told : Bool
  -- how often a call on it, or on a shelf that it took back, has failed
  pub faults : ℕ
  -- no call on it, or on a shelf or a file that it hands out, ever fails
  pub is_quiet : Bool

-- what is true of every farm
pub record IsFarm {S : Type 0} (farm : FarmView S) : Type 0 where
  -- a farm that is told knows each shelf that isn't out
  pub told_is_known : farm.is_told ≡ true → (disk vid : ℕ) → farm.is_out disk vid ≡ false → IsTold (farm.place disk vid)
  -- a farm that never fails has never failed
  pub quiet_has_no_fault : farm.is_quiet ≡ true → farm.faults ≡ 0

-- no shelf is out
abbrev pub AllAreBack : {S : Type 0} → FarmView S → Type 0
AllAreBack farm = (disk vid : ℕ) → farm.is_out disk vid ≡ false

-- ---- what the root has

-- on the shelf that is kept at a place there is a file of this name
abbrev pub HasFile : {S F : Type 0} → (S → ShelfView F) → Place S → ℕ → Type 0
HasFile seen (Kept shelf) name = is_there ((seen shelf).place name) ≡ Some true
HasFile seen _ name = ⊥

-- the root has a file on some shelf
abbrev pub RootHasFile : {S F : Type 0} → (S → ShelfView F) → (ℕ → ℕ → Place S) → Type 0
RootHasFile seen place = (disk : ℕ) × (vid : ℕ) × (name : ℕ) × HasFile seen (place disk vid) name

-- the root has the admin's file: file 1 of the shelf of disk 0 and volume 0
abbrev pub RootHasAdmin : {S F : Type 0} → (S → ShelfView F) → (ℕ → ℕ → Place S) → Type 0
RootHasAdmin seen place = HasFile seen (place 0 0) 1

-- ---- calls

module _ {S : Type 0} where
  -- each shelf is where it was
  pub record ShelvesStay (old new : FarmView S) : Type 0 where
    pub out : (disk vid : ℕ) → new.is_out disk vid ≡ old.is_out disk vid
    pub places : (disk vid : ℕ) → new.place disk vid ≡ old.place disk vid

  -- the same of each shelf but one
  pub record OtherShelvesStay (disk vid : ℕ) (old new : FarmView S) : Type 0 where
    pub out : (d v : ℕ) → (d ≡ disk → v ≡ vid → ⊥) → new.is_out d v ≡ old.is_out d v
    pub places : (d v : ℕ) → (d ≡ disk → v ≡ vid → ⊥) → new.place d v ≡ old.place d v

-- What each call keeps. It fails exactly where the count of faults rises in it.
pub record FarmCall {S T : Type 0} (old new : FarmView S) (result : Result T FarmFault) : Type 0 where
  pub never_falls : old.faults ≤ new.faults
  pub failed : IsErrOf result Failed → Rose old.faults new.faults
  pub others : (IsErrOf result Failed → ⊥) → new.faults ≡ old.faults
  pub told : new.is_told ≡ old.is_told
  pub quiet : new.is_quiet ≡ old.is_quiet

-- What a root answers. Where all is told, it is true exactly where the admin's file is there, and refused exactly where
-- the root has a file and not that one. Over any root it is refused only where an item was found.
pub record Roots {S F : Type 0} (seen : S → ShelfView F) (old new : FarmView S) (result : Result Bool FarmFault) : Type 0 where
  pub stay : ShelvesStay old new
  pub admin : old.is_told ≡ true → AllAreBack old → IfOk result (λ there. IsTrue there ↔ RootHasAdmin seen old.place)
  pub not_empty : old.is_told ≡ true → AllAreBack old → (IsErrOf result NotEmpty ↔ (RootHasFile seen old.place × (RootHasAdmin seen old.place → ⊥)))
  pub item : IsErrOf result NotEmpty → new.found_item ≡ true

-- no file was ever there
pub record HasNoFile {F : Type 0} (shelf : ShelfView F) : Type 0 where
  pub out : (name : ℕ) → shelf.is_out name ≡ false
  pub absent : (name : ℕ) → shelf.place name ≡ Absent
  pub leaves : (name : ℕ) (x : Option (List ℕ)) → shelf.leaves name x → x ≡ None

-- A shelf that is handed out has what its place says: the names and files of the shelf that was kept there, or none.
-- Where nothing is known, no file is out.
abbrev pub HasFilesOf : {S F : Type 0} → (S → ShelfView F) → Place S → ShelfView F → Type 0
HasFilesOf seen (Kept was) shelf = AllStay (seen was) shelf
HasFilesOf seen Absent shelf = HasNoFile shelf
HasFilesOf seen _ shelf = (name : ℕ) → shelf.is_out name ≡ false

-- a shelf is handed out, with no fault yet, and it is told where the farm is
pub record IsShelfLent {S F : Type 0} (seen : S → ShelfView F) (disk vid : ℕ) (old new : FarmView S) (shelf : S) : Type 0 where
  pub out : new.is_out disk vid ≡ true
  pub away : new.place disk vid ≡ Away
  pub others : OtherShelvesStay disk vid old new
  pub files : HasFilesOf seen (old.place disk vid) (seen shelf)
  pub no_fault : (seen shelf).faults ≡ 0
  pub told : (seen shelf).is_told ≡ old.is_told
  pub quiet : old.is_quiet ≡ true → (seen shelf).is_quiet ≡ true

abbrev pub LendsShelf : {S F : Type 0} → (S → ShelfView F) → ℕ → ℕ → FarmView S → FarmView S → Result S FarmFault → Type 0
LendsShelf seen disk vid old new (Ok shelf) = IsShelfLent seen disk vid old new shelf
LendsShelf seen disk vid old new (Err NotEmpty) = ⊥
LendsShelf seen disk vid old new (Err _) = ShelvesStay old new

-- a shelf is taken back: it is kept with its files and its count of faults
pub record TakesShelfBack {S F : Type 0} (seen : S → ShelfView F) (disk vid : ℕ) (shelf : S) (old new : FarmView S) : Type 0 where
  pub out : new.is_out disk vid ≡ false
  pub kept : new.place disk vid ≡ Kept shelf
  pub others : OtherShelvesStay disk vid old new
  pub count : min (old.faults + (seen shelf).faults) (2 ^ 64 - 1) ≤ new.faults
  pub never_falls : old.faults ≤ new.faults
  pub told : new.is_told ≡ old.is_told
  pub quiet : old.is_quiet ≡ true → (seen shelf).is_quiet ≡ true → new.is_quiet ≡ true
