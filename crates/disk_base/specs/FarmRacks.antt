-- What a farm in memory keeps.
use Rattle.std.specs.Prelude.{◌≡◌, true, false, not, ◌==◌, ℕ, Bool, List, [], length, is_some, Option, Some, None, Result, Ok, Err}
use Rattle.std.specs.List.{list_any}
use Rattle.std.specs.Map.{lookup, values_of}
use Rattle.std.specs.Ordering.{nat_cmp, ordering_then}
use Rattle.std.specs.declared.cmp.Ordering.{Ordering}
use Rattle.std.specs.BTreeMap.{is_at}
use Rattle.disk_base.specs.Faults.{Plan, unused_shared, fails_next, after_call, one_more, is_quiet, quiet_is_zero}
use Rattle.disk_base.specs.Places.{place_of, is_lent, IsTold}
use Rattle.disk_base.specs.Racks.{ShelfState, slot_at, empty_shelf, Becomes, IsShelfCrash, IsShelfFlip}
use Rattle.disk_base.specs.Farms.{FarmView, IsFarm}
use Rattle.disk_base.specs.declared.fault.FarmFault.{FarmFault}
use Rattle.disk_base.specs.declared.fault.FarmFault.TheVariants.{NotEmpty, Failed, Memory}

-- the shelves of a farm by disk and volume, ascending, each where it isn't out
abbrev pub ShelfSlots : Type 0
ShelfSlots = List ((ℕ × ℕ) × Option ShelfState)

-- how two disks and volumes compare
abbrev pub place_cmp : ℕ × ℕ → ℕ × ℕ → Ordering
place_cmp a b = ordering_then (nat_cmp a.0 b.0) (nat_cmp a.1 b.1)

-- the slot of a disk and a volume
abbrev pub shelf_at : ShelfSlots → ℕ → ℕ → Option (Option ShelfState)
shelf_at slots disk vid = lookup (is_at (place_cmp (disk, vid))) slots

-- the slot of the one shelf is this now, and each other shelf has the slot that it had
pub record SetsShelf (disk vid : ℕ) (slot : Option (Option ShelfState)) (old new : ShelfSlots) : Type 0 where
  pub here : shelf_at new disk vid ≡ slot
  pub others : (d v : ℕ) → (d ≡ disk → v ≡ vid → ⊥) → shelf_at new d v ≡ shelf_at old d v

-- a shelf is there, with a file
abbrev pub is_filled : Option ShelfState → Bool
is_filled None = false
is_filled (Some shelf) = not (length shelf.slots == 0)

-- some shelf that isn't out has a file
abbrev pub has_file : ShelfSlots → Bool
has_file slots = list_any is_filled (values_of slots)

-- the shelf is there, with the admin's file
abbrev pub admin_in : Option (Option ShelfState) → Bool
admin_in (Some (Some shelf)) = is_some (slot_at shelf.slots 1)
admin_in _ = false

-- a farm in memory: the plan of its calls and of what it hands out, how many shelves it handed out, and its slots
pub record FarmState : Type 0 where
  pub plan : Plan
  pub handed_out : ℕ
  pub slots : ShelfSlots

abbrev pub empty_farm : List ℕ → FarmState
empty_farm fails = record { plan = unused_shared fails; handed_out = 0; slots = [] }

-- the farm as it is seen
abbrev pub farm_view : FarmState → FarmView ShelfState
farm_view farm = record {
  is_out = λ disk vid. is_lent (shelf_at farm.slots disk vid);
  place = λ disk vid. place_of (shelf_at farm.slots disk vid);
  found_item = has_file farm.slots;
  is_told = true;
  faults = farm.plan.faults;
  is_quiet = is_quiet farm.plan;
}

-- a shelf that was never there is empty, and one that was kept comes with its files; its calls and files are counted anew
abbrev pub IsLentAnew : List ℕ → Option (Option ShelfState) → ShelfState → Type 0
IsLentAnew fails None shelf = shelf ≡ empty_shelf fails
IsLentAnew fails (Some None) shelf = Unit {0}
IsLentAnew fails (Some (Some was)) shelf = shelf ≡ record was { plan = unused_shared fails; handed_out = 0 }

-- A crash left each shelf that isn't out with what one may leave of it. All shelves and names are there as before.
pub record IsFarmCrash (old new : FarmState) : Type 0 where
  pub shelves : (disk vid : ℕ) → Becomes (Becomes IsShelfCrash) (shelf_at old.slots disk vid) (shelf_at new.slots disk vid)
  pub plan : new.plan ≡ old.plan
  pub numbers : new.handed_out ≡ old.handed_out

-- one bit of a file of one shelf was flipped; nothing else changed
pub record IsFarmFlip (disk vid name bit : ℕ) (old new : FarmState) : Type 0 where
  pub here : Becomes (Becomes (IsShelfFlip name bit)) (shelf_at old.slots disk vid) (shelf_at new.slots disk vid)
  pub others : (d v : ℕ) → (d ≡ disk → v ≡ vid → ⊥) → shelf_at new.slots d v ≡ shelf_at old.slots d v
  pub plan : new.plan ≡ old.plan
  pub numbers : new.handed_out ≡ old.handed_out

-- ---- how a call counts, by its answer: it fails exactly where it is one of those that are to fail

abbrev pub RootCounts : {T : Type 0} → Result T FarmFault → FarmState → FarmState → Type 0
RootCounts (Ok _) old new = (fails_next old.plan ≡ false) × (new.plan ≡ after_call false old.plan) × (new.handed_out ≡ old.handed_out)
RootCounts (Err NotEmpty) old new = (new.plan ≡ after_call false old.plan) × (new.handed_out ≡ old.handed_out)
RootCounts (Err Failed) old new = (fails_next old.plan ≡ true) × (new.plan ≡ after_call true old.plan) × (new.handed_out ≡ old.handed_out)
RootCounts (Err Memory) old new = ⊥

-- a refusal for memory isn't counted and changes nothing
abbrev pub ShelfCounts : {T : Type 0} → Result T FarmFault → FarmState → FarmState → Type 0
ShelfCounts (Ok _) old new = (fails_next old.plan ≡ false) × (new.plan ≡ after_call false old.plan) × (new.handed_out ≡ one_more old.handed_out)
ShelfCounts (Err NotEmpty) old new = ⊥
ShelfCounts (Err Failed) old new = (fails_next old.plan ≡ true) × (new.plan ≡ after_call true old.plan) × (new.handed_out ≡ old.handed_out)
ShelfCounts (Err Memory) old new = new ≡ old

-- ---- laws

told_is_known : (slot : Option (Option ShelfState)) → is_lent slot ≡ false → IsTold (place_of slot)
told_is_known None back = tt
told_is_known (Some None) back = cc back
told_is_known (Some (Some shelf)) back = tt

-- what is true of every farm is true of a farm in memory
pub is_farm : (farm : FarmState) → IsFarm (farm_view farm)
is_farm farm = record {
  told_is_known = λ told disk vid. told_is_known (shelf_at farm.slots disk vid);
  quiet_has_no_fault = quiet_is_zero farm.plan;
}
