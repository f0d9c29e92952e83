-- What is known of a farm in folders: which shelves are handed out, what is known of those that were taken back, whether the root had an
-- item, and how often a call failed.
use Rattle.std.specs.Prelude.{ℕ, ◌≡◌, Bool, false, List, [], Option, None, Some, Result, Ok, Err}
use Rattle.std.specs.Map.{lookup}
use Rattle.std.specs.BTreeMap.{is_at}
use Rattle.disk_base.specs.Faults.{one_more}
use Rattle.disk_base.specs.Places.{Place, Unknown, Away, Kept, is_lent}
use Rattle.disk_base.specs.Farms.{FarmView, IsFarm}
use Rattle.disk_base.specs.FarmRacks.{place_cmp}
use Rattle.disk_base.specs.declared.fault.FarmFault.{FarmFault}
use Rattle.disk_base.specs.declared.fault.FarmFault.TheVariants.{NotEmpty, Failed, Memory}
use Rattle.dir_farm.specs.DirShelf.{ShelfNotes, Names}

-- shelves by disk and volume, ascending, each where it isn't out
abbrev pub Shelves : Type 0
Shelves = List ((ℕ × ℕ) × Option ShelfNotes)

pub record FarmNotes : Type 0 where
  pub shelves : Shelves
  pub found_item : Bool
  pub faults : ℕ

-- what is known of a shelf
abbrev pub shelf_at : Shelves → ℕ → ℕ → Option (Option ShelfNotes)
shelf_at shelves disk vid = lookup (is_at (place_cmp (disk, vid))) shelves

abbrev pub place_of : Option (Option ShelfNotes) → Place ShelfNotes
place_of None = Unknown
place_of (Some None) = Away
place_of (Some (Some shelf)) = Kept shelf

abbrev pub farm_view : FarmNotes → FarmView ShelfNotes
farm_view farm = record {
  is_out = λ disk vid. is_lent (shelf_at farm.shelves disk vid);
  place = λ disk vid. place_of (shelf_at farm.shelves disk vid);
  found_item = farm.found_item;
  is_told = false;
  faults = farm.faults;
  is_quiet = false;
}

-- of one shelf this is known now, and of all others what was
pub record SetsShelf (disk vid : ℕ) (state : Option (Option ShelfNotes)) (old new : Shelves) : Type 0 where
  pub here : shelf_at new disk vid ≡ state
  pub others : (d v : ℕ) → (d ≡ disk → v ≡ vid → ⊥) → shelf_at new d v ≡ shelf_at old d v

-- ---- calls

-- a call that failed is counted
abbrev pub CountsFarm : {T : Type 0} → Result T FarmFault → ℕ → ℕ → Type 0
CountsFarm (Err Failed) before now = now ≡ one_more before
CountsFarm _ before now = now ≡ before

-- a call failed, or memory was out, which isn't counted
abbrev pub IsFarmRefusal : FarmFault → ℕ → ℕ → Type 0
IsFarmRefusal Failed before now = now ≡ one_more before
IsFarmRefusal Memory before now = now ≡ before
IsFarmRefusal _ before now = ⊥

-- the names that were known of a shelf
abbrev pub names_of : Option (Option ShelfNotes) → Names
names_of (Some (Some shelf)) = shelf.names
names_of _ = []

-- a shelf is handed out with what was known of its names, and no fault
abbrev pub LendsNotes : ℕ → ℕ → Shelves → Shelves → Result ShelfNotes FarmFault → Type 0
LendsNotes disk vid old new (Ok shelf) = (shelf ≡ record { names = names_of (shelf_at old disk vid); faults = 0 }) × SetsShelf disk vid (Some None) old new
LendsNotes disk vid old new (Err NotEmpty) = ⊥
LendsNotes disk vid old new (Err _) = new ≡ old

-- what is true of every farm is true of this one
pub is_farm : (farm : FarmNotes) → IsFarm (farm_view farm)
is_farm farm = record { told_is_known = λ told. absurd (cc told); quiet_has_no_fault = λ quiet. absurd (cc quiet) }
