-- What a shelf is seen as, and what the calls on it do.
use Rattle.std.specs.Prelude.{◌≡◌, ◌≢◌, ◌⊎◌, ◌↔◌, ◌+◌, ◌-◌, ◌^◌, ◌≤◌, min, ℕ, Bool, true, false, List, [], Contains, Option, Some, None, IfSome, IsSomeAnd, IsTrue, Result, Ok, Err, IsErrOf}
use Rattle.std.specs.Global.{Vec}
use Rattle.std.specs.List.Sorted.{IsStrictlyIncreasing}
use Rattle.disk_base.specs.Faults.{Rose}
use Rattle.disk_base.specs.Disk.{FileView, IsWithin, LeavesExactly}
use Rattle.disk_base.specs.Places.{Place, Absent, Away, Kept, is_there, IsTold, Keeps, IfKept}
use Rattle.disk_base.specs.declared.fault.ShelfFault.{ShelfFault}
use Rattle.disk_base.specs.declared.fault.ShelfFault.TheVariants.{Exists, Absent as NotThere, Failed, Memory}

-- ---- a shelf

-- what a crash may leave under a name: no file, or one with some bytes
abbrev pub NameImages : Type 1
NameImages = Option (List ℕ) → Type 0

-- A shelf of files of type F.
pub record ShelfView (F : Type 0) : Type 1 where
  -- the file of this name is handed out now
  pub is_out : ℕ → Bool
  -- whether there is a file of this name, and which one where it isn't out
  pub place : ℕ → Place F
  -- what a crash now may leave under a name whose file isn't out
  pub leaves : ℕ → NameImages
  -- its names and files are told
  pub is_told : Bool
  -- how often a call on it, or on a file that it took back, has failed
  pub faults : ℕ
  -- no call on it or on a file that it hands out ever fails
  pub is_quiet : Bool

-- a crash leaves what is there now: no file, or the file that is kept, with one of its images
abbrev pub LeavesPresent : {F : Type 0} → (F → FileView) → Place F → NameImages
LeavesPresent seen Absent x = x ≡ None
LeavesPresent seen (Kept file) x = IsSomeAnd x (seen file).images
LeavesPresent seen _ x = Unit {0}

-- what is true of every shelf
pub record IsShelf {F : Type 0} (seen : F → FileView) (shelf : ShelfView F) : Type 0 where
  -- a file that is out is there
  pub out_is_there : (name : ℕ) → shelf.is_out name ≡ true → is_there (shelf.place name) ≡ Some true
  -- a shelf that is told knows its names, and each file that isn't out
  pub told_is_known : shelf.is_told ≡ true → (name : ℕ) → shelf.is_out name ≡ false → IsTold (shelf.place name)
  -- a crash may leave what is there
  pub present_may_stay : (name : ℕ) (x : Option (List ℕ)) → shelf.is_out name ≡ false → IsTold (shelf.place name) → LeavesPresent seen (shelf.place name) x → shelf.leaves name x
  -- a shelf that never fails has never failed
  pub quiet_has_no_fault : shelf.is_quiet ≡ true → shelf.faults ≡ 0

module _ {F : Type 0} where
  -- Each name has what it had, and what wasn't known of it may be known now. A crash may leave nothing new.
  pub record AllStay (old new : ShelfView F) : Type 0 where
    pub out : (name : ℕ) → new.is_out name ≡ old.is_out name
    pub places : (name : ℕ) → Keeps (old.place name) (new.place name)
    pub leaves : (name : ℕ) (x : Option (List ℕ)) → new.leaves name x → old.leaves name x

  -- the same of each name but one
  pub record OthersStay (but : ℕ) (old new : ShelfView F) : Type 0 where
    pub out : (name : ℕ) → name ≢ but → new.is_out name ≡ old.is_out name
    pub places : (name : ℕ) → name ≢ but → Keeps (old.place name) (new.place name)
    pub leaves : (name : ℕ) (x : Option (List ℕ)) → name ≢ but → new.leaves name x → old.leaves name x

-- ---- calls

-- What each call keeps. It fails exactly where the count of faults rises in it.
pub record ShelfCall {F T : Type 0} (old new : ShelfView F) (result : Result T ShelfFault) : Type 0 where
  pub never_falls : old.faults ≤ new.faults
  pub failed : IsErrOf result Failed → Rose old.faults new.faults
  pub others : (IsErrOf result Failed → ⊥) → new.faults ≡ old.faults
  pub told : new.is_told ≡ old.is_told
  pub quiet : new.is_quiet ≡ old.is_quiet

-- the names are listed in ascending order: where it is known, exactly those that are there, and each one listed is known
pub record IsListed {F : Type 0} (old new : ShelfView F) (names : List ℕ) : Type 0 where
  pub ascend : IsStrictlyIncreasing names
  pub exact : (name : ℕ) → IfSome (is_there (old.place name)) (λ there. Contains names name ↔ IsTrue there)
  pub known : (name : ℕ) → Contains names name → is_there (new.place name) ≡ Some true
  pub stay : AllStay old new

abbrev pub Lists : {F : Type 0} → ShelfView F → ShelfView F → Result (Vec ℕ) ShelfFault → Type 0
Lists old new (Ok names) = IsListed old new names.items
Lists old new (Err Failed) = AllStay old new
Lists old new (Err Memory) = AllStay old new
Lists old new (Err _) = ⊥

-- a file is handed out under a name, with no fault yet
pub record IsLent {F : Type 0} (seen : F → FileView) (name : ℕ) (old new : ShelfView F) (file : F) : Type 0 where
  pub out : new.is_out name ≡ true
  pub away : new.place name ≡ Away
  pub others : OthersStay name old new
  pub no_fault : (seen file).faults ≡ 0
  pub quiet : old.is_quiet ≡ true → (seen file).is_quiet ≡ true

-- a file is handed out that was there: it has what was kept, and what a crash may leave of it might have been left before
pub record IsOpened {F : Type 0} (seen : F → FileView) (name : ℕ) (old new : ShelfView F) (file : F) : Type 0 where
  pub lent : IsLent seen name old new file
  pub content : IfKept (old.place name) (λ was. (seen file).content ≡ (seen was).content)
  pub images : IfKept (old.place name) (λ was. IsWithin (seen file).images (seen was).images)
  pub leaves : old.is_told ≡ true → (bytes : List ℕ) → (seen file).images bytes → old.leaves name (Some bytes)

abbrev pub Opens : {F : Type 0} → (F → FileView) → ℕ → ShelfView F → ShelfView F → Result F ShelfFault → Type 0
Opens seen name old new (Ok file) = IsOpened seen name old new file
Opens seen name old new (Err Exists) = ⊥
Opens seen name old new (Err _) = AllStay old new

-- an empty file is handed out, and a crash leaves it empty; it shows no other bytes, whatever else is told
pub record IsMade {F : Type 0} (seen : F → FileView) (name : ℕ) (old new : ShelfView F) (file : F) : Type 0 where
  pub lent : IsLent seen name old new file
  pub empty : old.is_told ≡ true → (seen file).content ≡ Some []
  pub shows : IfSome (seen file).content (λ bytes. bytes ≡ [])
  pub settled : old.is_told ≡ true → LeavesExactly [] (seen file).images

-- no file, or an empty one
abbrev pub IsNoneOrEmpty : {F : Type 0} → (F → FileView) → Place F → Type 0
IsNoneOrEmpty seen (Kept file) = ((seen file).content ≡ Some []) × LeavesExactly [] (seen file).images
IsNoneOrEmpty seen _ = Unit {0}

-- a make failed: there is no file or an empty one now, and after a crash
pub record MayBeMade {F : Type 0} (seen : F → FileView) (name : ℕ) (old new : ShelfView F) : Type 0 where
  pub out : new.is_out name ≡ old.is_out name
  pub empty : old.is_told ≡ true → IsNoneOrEmpty seen (new.place name)
  pub leaves : old.is_told ≡ true → (x : Option (List ℕ)) → new.leaves name x → old.leaves name x ⊎ (x ≡ Some [])
  pub others : OthersStay name old new

-- there is a file of that name already
pub record IsThere {F : Type 0} (name : ℕ) (old new : ShelfView F) : Type 0 where
  pub known : is_there (new.place name) ≡ Some true
  pub stay : AllStay old new

abbrev pub Makes : {F : Type 0} → (F → FileView) → ℕ → ShelfView F → ShelfView F → Result F ShelfFault → Type 0
Makes seen name old new (Ok file) = IsMade seen name old new file
Makes seen name old new (Err Exists) = IsThere name old new
Makes seen name old new (Err NotThere) = ⊥
Makes seen name old new (Err Failed) = MayBeMade seen name old new
Makes seen name old new (Err Memory) = AllStay old new

-- the file is gone for good
pub record IsRemoved {F : Type 0} (name : ℕ) (old new : ShelfView F) : Type 0 where
  pub out : new.is_out name ≡ false
  pub gone : IfSome (is_there (new.place name)) (λ there. there ≡ false)
  pub leaves : old.is_told ≡ true → (x : Option (List ℕ)) → new.leaves name x → x ≡ None
  pub others : OthersStay name old new

-- a remove failed: the file is there as it was, or it is gone, now and after a crash
pub record MayBeRemoved {F : Type 0} (name : ℕ) (old new : ShelfView F) : Type 0 where
  pub out : new.is_out name ≡ false
  pub place : old.is_told ≡ true → (new.place name ≡ old.place name) ⊎ (new.place name ≡ Absent)
  pub leaves : old.is_told ≡ true → (x : Option (List ℕ)) → new.leaves name x → old.leaves name x ⊎ (x ≡ None)
  pub others : OthersStay name old new

abbrev pub Removes : {F T : Type 0} → ℕ → ShelfView F → ShelfView F → Result T ShelfFault → Type 0
Removes name old new (Ok _) = IsRemoved name old new
Removes name old new (Err NotThere) = AllStay old new
Removes name old new (Err Failed) = MayBeRemoved name old new
Removes name old new (Err _) = ⊥

-- A file is taken back: it is kept with its content and its count of faults, and a crash leaves it.
pub record TakesBack {F : Type 0} (seen : F → FileView) (name : ℕ) (file : F) (old new : ShelfView F) : Type 0 where
  pub out : new.is_out name ≡ false
  pub kept : new.place name ≡ Kept file
  pub leaves : old.is_told ≡ true → (x : Option (List ℕ)) → new.leaves name x → IsSomeAnd x (seen file).images
  pub others : OthersStay name old new
  pub count : min (old.faults + (seen file).faults) (2 ^ 64 - 1) ≤ new.faults
  pub never_falls : old.faults ≤ new.faults
  pub told : new.is_told ≡ old.is_told
  pub quiet : old.is_quiet ≡ true → (seen file).is_quiet ≡ true → new.is_quiet ≡ true
  -- a shelf that is quiet once it took a file back was quiet before
  pub quiet_before : new.is_quiet ≡ true → old.is_quiet ≡ true
