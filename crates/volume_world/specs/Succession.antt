-- What a swap puts in lacks nothing.
-- Why every move keeps it: a swap counts. Of the units listed, as many as are enough to see, so few can hide an acknowledged blob that
-- as many as there are data shards show it, and one at least shows a committed delete; so each was copied or marked. After the swap nobody
-- acknowledges, commits or releases until the lock ends.
use Rattle.std.specs.Prelude.{ℕ, ◌≡◌, Bool, true, false, ◌||◌, List, Option, Some}
use Rattle.unit_id.specs.Lists.{IsIn, is_in}
use Rattle.unit_id.specs.Place.{Location, Place, at_home}
use Rattle.blob_node.specs.Units.{RowState, is_live, is_deleted}
use Rattle.volume_entry.specs.Manager.{Transfer, Lock, ManagerRecord, home_at, transfers_of, is_swapped}
use Rattle.volume_world.specs.State.{Status}
use Rattle.volume_world.specs.Durability.{IsHeld}

-- a swap is in doubt
abbrev pub is_swap_in_doubt : Option ManagerRecord → Bool
is_swap_in_doubt (Some ManagerRecord.Swapped) = true
is_swap_in_doubt doubt = false

-- a successor holds every acknowledged blob, and every committed mark
pub record Succession (homes : List Location) (lock : Option Lock) (doubt : Option ManagerRecord) (row : Place → ℕ → Option RowState) (status : ℕ → Status) (asked committed : List ℕ) : Type 0 where
  pub holds_acked : is_swapped lock || is_swap_in_doubt doubt ≡ true → (t : Transfer) → IsIn t (transfers_of lock)
      → (b : ℕ) → IsHeld status asked b → is_live (row (at_home t.index t.dest) b) ≡ true
  pub holds_committed : is_swapped lock || is_swap_in_doubt doubt ≡ true → (t : Transfer) → IsIn t (transfers_of lock)
      → (b : ℕ) → is_in b committed ≡ true → is_deleted (row (at_home t.index t.dest) b) ≡ true
  pub is_current : is_swapped lock ≡ true → (t : Transfer) → IsIn t (transfers_of lock) → home_at homes t.index ≡ t.dest
