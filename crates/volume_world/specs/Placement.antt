-- Where units stand, and under which epochs.
-- Why every move keeps it: only a current unit or a destination is made, on its own disk; a lock and a
-- retarget give an epoch above all that were given, so no unit of that name exists; a swap makes destinations current; breaking disks
-- only frees.
use Rattle.std.specs.Prelude.{ℕ, ◌≡◌, ◌<◌, ◌≤◌, ◌⊎◌, Bool, true, false, List, Option}
use Rattle.unit_id.specs.Lists.{IsIn}
use Rattle.unit_id.specs.Place.{Location, Place}
use Rattle.volume_entry.specs.Manager.{Transfer, Lock, home_at, greatest_at, transfers_of, is_swapped, is_destination}

-- one disk for each unit, different disks for different indexes, and epochs within those given
pub record Placement (total : ℕ) (homes : List Location) (greatest : List ℕ) (lock : Option Lock) (broken : ℕ → Bool) (is_made : Place → Bool) : Type 0 where
  pub made_index : (p : Place) → is_made p ≡ true → p.index < total
  pub one_disk : (p q : Place) → is_made p ≡ true → is_made q ≡ true → p.index ≡ q.index → p.epoch ≡ q.epoch → p.disk ≡ q.disk
  pub current_at_home : (p : Place) → is_made p ≡ true → p.epoch ≡ (home_at homes p.index).epoch → p.disk ≡ (home_at homes p.index).disk
  pub destination_at_home : (p : Place) (t : Transfer) → is_made p ≡ true → IsIn t (transfers_of lock) → p.index ≡ t.index → p.epoch ≡ t.dest.epoch → p.disk ≡ t.dest.disk
  pub old_at_home : (p : Place) (t : Transfer) → is_made p ≡ true → IsIn t (transfers_of lock) → p.index ≡ t.index → p.epoch ≡ t.old.epoch → p.disk ≡ t.old.disk
  pub homes_apart : (i j : ℕ) → i < total → j < total → (home_at homes i).disk ≡ (home_at homes j).disk → i ≡ j
  pub destinations_free : is_swapped lock ≡ false → (t : Transfer) → IsIn t (transfers_of lock) → (i : ℕ) → i < total → (home_at homes i).disk ≡ t.dest.disk → ⊥
  pub destinations_apart : is_swapped lock ≡ false → (t u : Transfer) → IsIn t (transfers_of lock) → IsIn u (transfers_of lock) → t.dest.disk ≡ u.dest.disk → t.index ≡ u.index
  pub made_given : (p : Place) → is_made p ≡ true → p.epoch ≤ greatest_at greatest p.index
  pub current_given : (i : ℕ) → i < total → (home_at homes i).epoch ≤ greatest_at greatest i
  pub destination_given : (t : Transfer) → IsIn t (transfers_of lock) → t.dest.epoch ≤ greatest_at greatest t.index
  pub above_current : (p : Place) → is_made p ≡ true → (home_at homes p.index).epoch < p.epoch → (broken p.disk ≡ true) ⊎ (is_destination (transfers_of lock) p ≡ true)
  pub old_disk_left : is_swapped lock ≡ true → (t : Transfer) → IsIn t (transfers_of lock) → t.old.disk ≡ (home_at homes t.index).disk → ⊥
  pub old_disk_newest : is_swapped lock ≡ true → (t : Transfer) → IsIn t (transfers_of lock) → broken t.old.disk ≡ false
      → (p : Place) → is_made p ≡ true → p.index ≡ t.index → p.disk ≡ t.old.disk → p.epoch ≤ t.old.epoch
