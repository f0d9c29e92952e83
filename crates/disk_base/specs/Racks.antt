-- What a shelf in memory keeps.
use Rattle.std.specs.Prelude.{◌≡◌, ◌≢◌, ◌/◌, ◌%◌, ◌^◌, slice_set, slice_index, bit_xor, true, false, ℕ, List, [], Option, Some, None, IfSome, Result, Ok, Err, refl}
use Rattle.std.specs.Map.{lookup}
use Rattle.std.specs.Ordering.{nat_cmp}
use Rattle.std.specs.BTreeMap.{is_at}
use Rattle.disk_base.specs.Faults.{Plan, unused, unused_shared, fails_next, after_call, one_more, is_quiet, quiet_is_zero}
use Rattle.disk_base.specs.Places.{place_of, is_lent, is_there, IsTold}
use Rattle.disk_base.specs.Disk.{FileView}
use Rattle.disk_base.specs.Images.{FileState, settled_epoch, after_crash}
use Rattle.disk_base.specs.Shelves.{ShelfView, IsShelf, LeavesPresent}
use Rattle.disk_base.specs.declared.fault.ShelfFault.{ShelfFault}
use Rattle.disk_base.specs.declared.fault.ShelfFault.TheVariants.{Exists, Absent, Failed, Memory}

-- the names of a shelf, ascending, each with its file where that isn't out
abbrev pub Slots : Type 0
Slots = List (ℕ × Option FileState)

-- the slot of a name
abbrev pub slot_at : Slots → ℕ → Option (Option FileState)
slot_at slots name = lookup (is_at (nat_cmp name)) slots

-- the slot of the one name is this now, and each other name has the slot that it had
pub record Sets (name : ℕ) (slot : Option (Option FileState)) (old new : Slots) : Type 0 where
  pub here : slot_at new name ≡ slot
  pub others : (n : ℕ) → n ≢ name → slot_at new n ≡ slot_at old n

-- a shelf in memory: the plan of its calls and of its files', how many files it handed out, and its slots
pub record ShelfState : Type 0 where
  pub plan : Plan
  pub handed_out : ℕ
  pub slots : Slots

abbrev pub empty_shelf : List ℕ → ShelfState
empty_shelf fails = record { plan = unused_shared fails; handed_out = 0; slots = [] }

-- the shelf as it is seen
abbrev pub shelf_view : (FileState → FileView) → ShelfState → ShelfView FileState
shelf_view seen shelf = record {
  is_out = λ name. is_lent (slot_at shelf.slots name);
  place = λ name. place_of (slot_at shelf.slots name);
  leaves = λ name. LeavesPresent seen (place_of (slot_at shelf.slots name));
  is_told = true;
  faults = shelf.plan.faults;
  is_quiet = is_quiet shelf.plan;
}

-- ---- how a call counts, by its answer: it fails exactly where it is one of those that are to fail

-- it was answered; it handed out a file, which takes the next number; it was refused for another reason than a fault; it failed
abbrev pub Answered : ShelfState → ShelfState → Type 0
Answered old new = (fails_next old.plan ≡ false) × (new.plan ≡ after_call false old.plan) × (new.handed_out ≡ old.handed_out)

abbrev pub HandedOut : ShelfState → ShelfState → Type 0
HandedOut old new = (fails_next old.plan ≡ false) × (new.plan ≡ after_call false old.plan) × (new.handed_out ≡ one_more old.handed_out)

abbrev pub Refused : ShelfState → ShelfState → Type 0
Refused old new = (new.plan ≡ after_call false old.plan) × (new.handed_out ≡ old.handed_out)

abbrev pub DidFail : ShelfState → ShelfState → Type 0
DidFail old new = (fails_next old.plan ≡ true) × (new.plan ≡ after_call true old.plan) × (new.handed_out ≡ old.handed_out)

-- a refusal for memory isn't counted and changes nothing
abbrev pub NamesCounts : {T : Type 0} → Result T ShelfFault → ShelfState → ShelfState → Type 0
NamesCounts (Ok _) old new = Answered old new
NamesCounts (Err Failed) old new = DidFail old new
NamesCounts (Err Memory) old new = new ≡ old
NamesCounts (Err _) old new = ⊥

abbrev pub OpenCounts : {T : Type 0} → Result T ShelfFault → ShelfState → ShelfState → Type 0
OpenCounts (Ok _) old new = HandedOut old new
OpenCounts (Err Exists) old new = ⊥
OpenCounts (Err Absent) old new = Refused old new
OpenCounts (Err Failed) old new = DidFail old new
OpenCounts (Err Memory) old new = new ≡ old

abbrev pub MakeCounts : {T : Type 0} → Result T ShelfFault → ShelfState → ShelfState → Type 0
MakeCounts (Ok _) old new = HandedOut old new
MakeCounts (Err Exists) old new = Refused old new
MakeCounts (Err Absent) old new = ⊥
MakeCounts (Err Failed) old new = DidFail old new
MakeCounts (Err Memory) old new = new ≡ old

abbrev pub RemoveCounts : {T : Type 0} → Result T ShelfFault → ShelfState → ShelfState → Type 0
RemoveCounts (Ok _) old new = Answered old new
RemoveCounts (Err Absent) old new = Refused old new
RemoveCounts (Err Failed) old new = DidFail old new
RemoveCounts (Err _) old new = ⊥

-- the file that was kept, as it is handed out once more: its calls and faults are counted anew
abbrev pub IsReopened : List ℕ → Option (Option FileState) → FileState → Type 0
IsReopened fails slot file = IfSome slot (λ was. IfSome was (λ kept. file ≡ record kept { plan = unused fails }))

-- ---- crashes

-- what isn't there stays away, and what is there becomes something by R
abbrev pub Becomes : {T : Type 0} → (T → T → Type 0) → Option T → Option T → Type 0
Becomes R None new = new ≡ None
Becomes {T} R (Some x) new = (y : T) × (new ≡ Some y) × R x y

-- a crash left one of the images of a file
abbrev pub IsFileCrash : FileState → FileState → Type 0
IsFileCrash old new = (choice : List ℕ) × (new ≡ after_crash choice old)

-- A crash left each file of a shelf that isn't out with one of its images. All names are there as before.
pub record IsShelfCrash (old new : ShelfState) : Type 0 where
  pub files : (name : ℕ) → Becomes (Becomes IsFileCrash) (slot_at old.slots name) (slot_at new.slots name)
  pub plan : new.plan ≡ old.plan
  pub numbers : new.handed_out ≡ old.handed_out

-- ---- flipped bits

-- the bytes with one bit the other way round, counted from the lowest bit of the first byte; none past the end
abbrev pub flipped : ℕ → List ℕ → List ℕ
flipped bit bytes = slice_set bytes (bit / 8) (bit_xor (slice_index bytes (bit / 8)) (2 ^ (bit % 8)))

-- a file that was found so, of which nothing else is remembered
abbrev pub after_flip : ℕ → FileState → FileState
after_flip bit file = record file { present = settled_epoch (flipped bit file.present.bytes); past = [] }

-- One bit of a file that isn't out was flipped; nothing else changed.
abbrev pub IsFlipped : ℕ → FileState → FileState → Type 0
IsFlipped bit old new = new ≡ after_flip bit old

pub record IsShelfFlip (name bit : ℕ) (old new : ShelfState) : Type 0 where
  pub here : Becomes (Becomes (IsFlipped bit)) (slot_at old.slots name) (slot_at new.slots name)
  pub others : (n : ℕ) → n ≢ name → slot_at new.slots n ≡ slot_at old.slots n
  pub plan : new.plan ≡ old.plan
  pub numbers : new.handed_out ≡ old.handed_out

-- ---- laws

module _ (seen : FileState → FileView) where
  out_is_there : (slot : Option (Option FileState)) → is_lent slot ≡ true → is_there (place_of slot) ≡ Some true
  out_is_there None out = cc out
  out_is_there (Some None) out = refl
  out_is_there (Some (Some file)) out = refl

  told_is_known : (slot : Option (Option FileState)) → is_lent slot ≡ false → IsTold (place_of slot)
  told_is_known None back = tt
  told_is_known (Some None) back = cc back
  told_is_known (Some (Some file)) back = tt

  -- what is true of every shelf is true of a shelf in memory
  pub is_shelf : (shelf : ShelfState) → IsShelf seen (shelf_view seen shelf)
  is_shelf shelf = record {
    out_is_there = λ name. out_is_there (slot_at shelf.slots name);
    told_is_known = λ told name. told_is_known (slot_at shelf.slots name);
    present_may_stay = λ name x back told present. present;
    quiet_has_no_fault = quiet_is_zero shelf.plan;
  }
