-- What is known of a shelf in a folder: of each name that was seen whether its file is handed out, and what was counted of one that was
-- taken back; and how often a call failed.
use Rattle.std.specs.Prelude.{ℕ, ◌≡◌, ◌≢◌, Bool, true, false, List, Option, None, Some, is_some, Result, Ok, Err, refl}
use Rattle.std.specs.Global.{Vec}
use Rattle.std.specs.List.Sorted.{IsStrictlyIncreasing}
use Rattle.std.specs.Map.{lookup, keys_of}
use Rattle.std.specs.Ordering.{nat_cmp}
use Rattle.std.specs.BTreeMap.{is_at}
use Rattle.disk_base.specs.Places.{Place, Unknown, Away, Kept, is_there}
use Rattle.disk_base.specs.Shelves.{ShelfView, IsShelf}
use Rattle.disk_base.specs.Faults.{one_more}
use Rattle.disk_base.specs.declared.fault.ShelfFault.{ShelfFault}
use Rattle.disk_base.specs.declared.fault.ShelfFault.TheVariants.{Exists, Absent, Failed, Memory}
use Rattle.dir_farm.specs.declared.dir_file.FileCounts.{FileCounts}
use Rattle.dir_farm.specs.declared.names.Known.{Known}
use Rattle.dir_farm.specs.declared.names.Known.TheVariants as known
use Rattle.dir_farm.specs.DirFile.{file_view}

-- names, ascending, with what is known of each
abbrev pub Names : Type 0
Names = List (ℕ × Known)

pub record ShelfNotes : Type 0 where
  pub names : Names
  pub faults : ℕ

-- what is known of a name
abbrev pub known_at : Names → ℕ → Option Known
known_at names name = lookup (is_at (nat_cmp name)) names

abbrev pub place_of : Option Known → Place FileCounts
place_of None = Unknown
place_of (Some known.There) = Away
place_of (Some known.Out) = Away
place_of (Some (known.Back counts)) = Kept counts

abbrev pub is_out : Option Known → Bool
is_out (Some known.Out) = true
is_out _ = false

-- A crash may leave anything.
abbrev pub shelf_view : ShelfNotes → ShelfView FileCounts
shelf_view shelf = record {
  is_out = λ name. is_out (known_at shelf.names name);
  place = λ name. place_of (known_at shelf.names name);
  leaves = λ name x. Unit {0};
  is_told = false;
  faults = shelf.faults;
  is_quiet = false;
}

-- of one name this is known now, and of all others what was
pub record Sets (name : ℕ) (state : Option Known) (old new : Names) : Type 0 where
  pub here : known_at new name ≡ state
  pub others : (n : ℕ) → n ≢ name → known_at new n ≡ known_at old n

-- what was known of a name is known still, and one of which nothing was known isn't out
abbrev pub StaysAt : Option Known → Option Known → Type 0
StaysAt None new = is_out new ≡ false
StaysAt (Some state) new = new ≡ Some state

abbrev pub Stays : Names → Names → Type 0
Stays old new = (n : ℕ) → StaysAt (known_at old n) (known_at new n)

-- a call failed, or memory was out, which isn't counted
abbrev pub IsRefusal : ShelfFault → ℕ → ℕ → Type 0
IsRefusal Failed before now = now ≡ one_more before
IsRefusal Memory before now = now ≡ before
IsRefusal _ before now = ⊥

-- ---- calls

-- no call was made on a file yet
abbrev pub unused : FileCounts
unused = record { calls = 0; faults = 0; is_lost = false }

-- a call that failed is counted
abbrev pub CountsShelf : {T : Type 0} → Result T ShelfFault → ℕ → ℕ → Type 0
CountsShelf (Err Failed) before now = now ≡ one_more before
CountsShelf _ before now = now ≡ before

-- all names that are known are listed
abbrev pub ListsNames : Names → Names → Result (Vec ℕ) ShelfFault → Type 0
ListsNames old new (Ok listed) = Stays old new × (listed.items ≡ keys_of new) × IsStrictlyIncreasing listed.items
ListsNames old new (Err Failed) = Stays old new
ListsNames old new (Err Memory) = Stays old new
ListsNames old new (Err _) = ⊥

abbrev pub OpensName : ℕ → Names → Names → Result FileCounts ShelfFault → Type 0
OpensName name old new (Ok file) = (file ≡ unused) × Sets name (Some known.Out) old new
OpensName name old new (Err Exists) = ⊥
OpensName name old new (Err Absent) = (known_at old name ≡ None) × (new ≡ old)
OpensName name old new (Err _) = new ≡ old

abbrev pub MakesName : ℕ → Names → Names → Result FileCounts ShelfFault → Type 0
MakesName name old new (Ok file) = (known_at old name ≡ None) × (file ≡ unused) × Sets name (Some known.Out) old new
MakesName name old new (Err Exists) = (is_some (known_at new name) ≡ true) × Stays old new
MakesName name old new (Err Absent) = ⊥
MakesName name old new (Err _) = (known_at old name ≡ None) × (new ≡ old)

-- a file that may be gone isn't known any more
abbrev pub RemovesName : {T : Type 0} → ℕ → Names → Names → Result T ShelfFault → Type 0
RemovesName name old new (Ok _) = Sets name None old new
RemovesName name old new (Err Absent) = (known_at old name ≡ None) × (new ≡ old)
RemovesName name old new (Err Failed) = Sets name None old new
RemovesName name old new (Err _) = ⊥

-- what is true of every shelf is true of this one
pub is_shelf : (shelf : ShelfNotes) → IsShelf file_view (shelf_view shelf)
is_shelf shelf = record {
  out_is_there = λ name out. there (known_at shelf.names name) out;
  told_is_known = λ told. absurd (cc told);
  present_may_stay = λ name x out told left. tt;
  quiet_has_no_fault = λ quiet. absurd (cc quiet);
}
  where
    there : (state : Option Known) → is_out state ≡ true → is_there (place_of state) ≡ Some true
    there None out = absurd (cc out)
    there (Some known.There) out = refl
    there (Some known.Out) out = refl
    there (Some (known.Back counts)) out = absurd (cc out)
