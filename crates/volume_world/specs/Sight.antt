-- Under a lock that isn't swapped, what the listings can miss is bounded, and what was heard is true.
-- Why every move keeps it: a unit's listing shows all its rows, so it can hide only what the unit lacked when the lock began or later; and
-- nothing that is acknowledged or committed becomes so under a lock.
use Rattle.std.specs.Prelude.{ℕ, ◌≡◌, ◌+◌, ◌≤◌, Bool, true, false, List, Option, is_some}
use Rattle.unit_id.specs.Lists.{IsIn, is_in}
use Rattle.unit_id.specs.Place.{Location, Place, at_home}
use Rattle.code_mode.specs.VolumeShape.{VolumeShape}
use Rattle.unit_id.specs.Request.{Request, Answer, Given}
use Rattle.blob_node.specs.Units.{RowState, is_deleted, has_row}
use Rattle.volume_entry.specs.Manager.{Transfer, Lock, HeardListing, Heard, transfers_of, is_swapped, has_number}
use Rattle.volume_entry.specs.Benchmark.{was_heard}
use Rattle.volume_world.specs.State.{Status}
use Rattle.volume_world.specs.Blind.{blind_live, blind_mark}
use Rattle.volume_world.specs.Durability.{IsHeld}

-- the listing was given under the present lock
pub record WasListed (lock : Option Lock) (pairs : List Given) (listing : HeardListing) : Type 0 where
  pub place : Place
  pub number : ℕ
  pub said : ℕ
  pub index : place.index ≡ listing.index
  pub epoch : place.epoch ≡ listing.epoch
  pub under : has_number lock number ≡ true
  pub given : IsIn (record { request = Request.List place number; answer = Answer.Listing said listing.shown }) pairs

-- under a lock that isn't swapped, what the listings can miss is bounded
pub record Sight (shape : VolumeShape) (homes : List Location) (lock : Option Lock) (heard : Heard) (broken : ℕ → Bool) (row : Place → ℕ → Option RowState) (status : ℕ → Status) (asked committed : List ℕ) (given : List Given) : Type 0 where
  pub few_blind_live : is_some lock ≡ true → is_swapped lock ≡ false → (b : ℕ) → IsHeld status asked b
      → blind_live shape.total lock homes broken row given b + shape.quorum ≤ shape.total
  pub few_blind_mark : is_some lock ≡ true → is_swapped lock ≡ false → (b : ℕ) → is_in b committed ≡ true
      → blind_mark shape.total lock homes broken row given b + shape.data_count ≤ shape.quorum
  pub listings_given : is_some lock ≡ true → is_swapped lock ≡ false → (l : HeardListing) → IsIn l heard.listings → WasListed lock given l
  pub live_rows_stand : is_swapped lock ≡ false → (t : Transfer) (b : ℕ) → IsIn t (transfers_of lock) → was_heard heard.live t.index b ≡ true
      → has_row (row (at_home t.index t.dest) b) ≡ true
  pub marked_rows_stand : is_swapped lock ≡ false → (t : Transfer) (b : ℕ) → IsIn t (transfers_of lock) → was_heard heard.marked t.index b ≡ true
      → is_deleted (row (at_home t.index t.dest) b) ≡ true
