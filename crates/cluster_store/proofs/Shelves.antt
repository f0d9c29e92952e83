-- Where shelves are when there is a volume more.
use Rattle.std.proofs.Common.{◌≡◌, ◌∙◌, sym, ap, refl, subst, ℕ, inl, inr, ◌+◌, ◌<◌, ◌≤◌, ◌⊎◌, false, List, [], ◌∷◌, ◌++◌, length, Option, Some, None, arith}
use Rattle.std.proofs.lemmas.Bool.{cases_lt}
use Rattle.std.specs.Prelude.{slice_get}
use Rattle.disk_base.specs.Places.{Place}
use Rattle.disk_base.specs.Shelves.{ShelfView}
use Rattle.disk_base.specs.Farms.{FarmView}
use Rattle.farm_volume.specs.Lending.{AreOut, AreBack, OthersStay}
use Rattle.farm_volume.specs.Making.{IsFresh}
use Rattle.volume_maker.specs.Making.{HasRoom, next_number}
use Rattle.cluster_store.specs.Store.{OpenedOver, StoreOver, IsStore, AreShelvesOf, IsOver}
use Rattle.cluster_store.proofs.Lists.{get_last, get_before, get_none, tells}
use Rattle.cluster_store.proofs.Stores.{equally_long}

module _ {S E : Type 0} (shelf_seen : S → ShelfView E) where
  -- the shelves of another number stay
  slot_stays : (vid number count : ℕ) (slot : Option (Option (OpenedOver S E))) (before after : FarmView S) → (number ≡ vid → ⊥) → OthersStay vid 0 count before after → AreShelvesOf shelf_seen number slot before
      → AreShelvesOf shelf_seen number slot after
  slot_stays vid number count (Some (Some opened)) before after apart stay h = λ d first last. stay.out d number (λ a b e. apart e) ∙ h d first last
  slot_stays vid number count (Some None) before after apart stay h = λ d. stay.out d number (λ a b e. apart e) ∙ h d
  slot_stays vid number count None before after apart stay h = λ d.
      (stay.out d number (λ a b e. apart e) ∙ (h d).0, subst (λ (p : Place S). IsFresh shelf_seen p) (sym (stay.places d number (λ a b e. apart e))) (h d).1)

  pub over_more : (old new : StoreOver S E) (slot : Option (OpenedOver S E)) (before after : FarmView S) (count : ℕ) → new.volumes ≡ old.volumes ++ slot ∷ [] → OthersStay (length old.volumes + 1) 0 count before after
      → AreShelvesOf shelf_seen (length old.volumes + 1) (Some slot) after → IsOver shelf_seen old before → IsOver shelf_seen new after
  over_more old new slot before after count is stay there h place =
      subst (λ vs. AreShelvesOf shelf_seen (place + 1) (slice_get vs place) after) (sym is)
      (elim (tells (length old.volumes) place) [
        | inl same ↦
            subst (λ (q : ℕ). AreShelvesOf shelf_seen (q + 1) (slice_get (old.volumes ++ slot ∷ []) q) after) same.1
            (subst (λ s. AreShelvesOf shelf_seen (length old.volumes + 1) s after) (sym (get_last old.volumes slot)) there)
        | inr apart ↦
            subst (λ s. AreShelvesOf shelf_seen (place + 1) s after) (sym (get_before old.volumes slot place apart.1))
            (slot_stays (length old.volumes + 1) (place + 1) count (slice_get old.volumes place) before after (λ e. apart.1 (omega (arith, e))) stay (h place))
      ])

  -- the shelves of the next number
  next_there : (store : StoreOver S E) (farm : FarmView S) → IsOver shelf_seen store farm → AreShelvesOf shelf_seen (length store.volumes + 1) None farm
  next_there store farm h = subst (λ s. AreShelvesOf shelf_seen (length store.volumes + 1) s farm) (get_none store.volumes) (h (length store.volumes))

  pub has_room : (store : StoreOver S E) (farm : FarmView S) → IsStore store → IsOver shelf_seen store farm → HasRoom shelf_seen store.tables farm
  has_room store farm h over =
      let next = next_there store farm over in
      let same : length store.volumes + 1 ≡ next_number store.tables = ap (λ (n : ℕ). n + 1) (equally_long store h) in
      record {
        back = subst (λ (v : ℕ). AreBack v 0 (length store.tables.disks + 1) farm) same (λ d first last. (next d).0);
        fresh = subst (λ (v : ℕ). (d : ℕ) → 0 ≤ d → d < 0 + (length store.tables.disks + 1) → IsFresh shelf_seen (farm.place d v)) same (λ d first last. (next d).1);
      }

  -- a lost volume's shelves are all at the farm
  pub all_back : (store : StoreOver S E) (before after : FarmView S) (count : ℕ) → IsOver shelf_seen store before → AreBack (length store.volumes + 1) 0 count after → OthersStay (length store.volumes + 1) 0 count before after
      → (d : ℕ) → after.is_out d (length store.volumes + 1) ≡ false
  all_back store before after count over back stay d = elim (cases_lt d count) [
    | inl below ↦ back d (omega arith) (omega (arith, below))
    | inr above ↦ stay.out d (length store.volumes + 1) (λ first last e. absurd (omega (arith, above, last))) ∙ (next_there store before over d).0
  ]
