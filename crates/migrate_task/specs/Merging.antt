-- Listings in order of their blobs, and the blobs that they show.
use Rattle.std.specs.Prelude.{ℕ, ◌≡◌, Bool, ◌&&◌, nat_le, List, [], ◌∷◌, ◌++◌, filter}
use Rattle.std.specs.List.Sorted.{IsStrictlyIncreasing}
use Rattle.unit_id.specs.Lists.{is_in}
use Rattle.code_mode.specs.VolumeShape.{last_time}
use Rattle.migrate_task.specs.declared.listing.Listing.{Listing}
use Rattle.migrate_task.specs.declared.ordered.Ordered.{Ordered}

-- the same blobs, of the same index
pub record IsOrderOf (listing : Listing) (order : Ordered) : Type 0 where
  pub index : order.index ≡ listing.index
  pub live : (bid : ℕ) → is_in bid order.live ≡ is_in bid listing.live
  pub marked : (bid : ℕ) → is_in bid order.marked ≡ is_in bid listing.marked

abbrev pub AreOrderOf : List Listing → List Ordered → Type 0
AreOrderOf [] [] = Unit {0}
AreOrderOf (listing ∷ listings) (order ∷ orders) = IsOrderOf listing order × AreOrderOf listings orders
AreOrderOf listings orders = ⊥

-- a number that a blob can have
abbrev pub is_number : ℕ → Bool
is_number bid = nat_le 1 bid && nat_le bid last_time

-- all that listings show, one listing behind the other
abbrev pub all_shown : List Listing → List ℕ
all_shown [] = []
all_shown (listing ∷ listings) = filter is_number listing.live ++ (filter is_number listing.marked ++ all_shown listings)

-- each blob that listings show, once, in order
pub record AreShown (listings : List Listing) (bids : List ℕ) : Type 0 where
  pub rises : IsStrictlyIncreasing bids
  pub same : (bid : ℕ) → is_in bid bids ≡ is_in bid (all_shown listings)
