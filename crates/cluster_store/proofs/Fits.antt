-- Which commands the volumes of a store may be given, and where their shelves are.
use Rattle.std.proofs.Common.{◌≡◌, ◌∙◌, sym, ap, refl, subst, get_or, ℕ, inl, inr, ◌+◌, ◌-◌, ◌<◌, ◌≤◌, ◌==◌, ◌⊎◌, Bool, true, false, cond, List, [], ◌∷◌, ◌++◌, length, Option, Some, None, arith}
use Rattle.std.proofs.lemmas.Bool.{cases_lt}
use Rattle.std.specs.Prelude.{slice_get, slice_set, is_some}
use Rattle.std.proofs.lemmas.Option.{slice_get_within, slice_get_past, slice_get-get_or}
use Rattle.disk_base.specs.Disk.{FileView}
use Rattle.disk_base.specs.Shelves.{ShelfView}
use Rattle.disk_base.specs.Farms.{FarmView}
use Rattle.volume_entry.specs.Manager.{IsDisk}
use Rattle.volume_world.specs.Way.{Origin, shape_of}
use Rattle.cluster_admin.specs.declared.disks.Disk.{Disk}
use Rattle.cluster_admin.specs.declared.volumes.Volume.{Volume}
use Rattle.cluster_admin.specs.Cluster.{State}
use Rattle.cluster_admin.specs.Disks.{disk_at}
use Rattle.cluster_admin.specs.Volumes.{volume_at, volume_in}
use Rattle.cluster_store.proofs.Stores.{volume_stands}
use Rattle.farm_volume.specs.Lending.{AreOut}
use Rattle.volume_turns.specs.Session.{Turn}
use Rattle.cluster_store.specs.Plan.{Step}
use Rattle.cluster_store.specs.Store.{IsPlace, OpenedOver, StoreOver, IsOpened, IsSlot, IsStore, AreShelvesOf, IsOver, IsSlotSession, AreSessions, turns_at, way_at}
use Rattle.cluster_store.proofs.Lists.{tells}

module _ {S E : Type 0} where
  -- a volume that is there, and what the tables have of it
  pub record IsThere (store : StoreOver S E) (place : ℕ) (opened : OpenedOver S E) : Type 0 where
    pub slot : Volume
    pub there : slice_get store.tables.volumes place ≡ Some (Some slot)
    pub is : IsOpened (length store.tables.disks) place slot opened

  of_slot : (store : StoreOver S E) (place : ℕ) (opened : OpenedOver S E) (slot : Option (Option Volume)) → slice_get store.tables.volumes place ≡ slot → IsSlot (length store.tables.disks) place slot (Some (Some opened)) → IsThere store place opened
  of_slot store place opened (Some (Some slot)) e h = record { slot = slot; there = e; is = h }
  of_slot store place opened (Some None) e h = absurd h
  of_slot store place opened None e h = absurd h

  pub opened_there : (store : StoreOver S E) (place : ℕ) (opened : OpenedOver S E) → IsStore store → slice_get store.volumes place ≡ Some (Some opened) → IsThere store place opened
  opened_there store place opened h e =
      of_slot store place opened (slice_get store.tables.volumes place) refl (subst (λ slot. IsSlot (length store.tables.disks) place (slice_get store.tables.volumes place) slot) e (h.slots place))

  -- where the tables have a volume, it is there
  pub record HasOpened (store : StoreOver S E) (place : ℕ) (slot : Volume) : Type 0 where
    pub opened : OpenedOver S E
    pub there : slice_get store.volumes place ≡ Some (Some opened)
    pub is : IsOpened (length store.tables.disks) place slot opened

  of_opened : (store : StoreOver S E) (place : ℕ) (slot : Volume) (opened : Option (Option (OpenedOver S E))) → slice_get store.volumes place ≡ opened → IsSlot (length store.tables.disks) place (Some (Some slot)) opened → HasOpened store place slot
  of_opened store place slot (Some (Some opened)) e h = record { opened = opened; there = e; is = h }
  of_opened store place slot (Some None) e h = absurd h
  of_opened store place slot None e h = absurd h

  pub slot_there : (store : StoreOver S E) (place : ℕ) (slot : Volume) → IsStore store → slice_get store.tables.volumes place ≡ Some (Some slot) → HasOpened store place slot
  slot_there store place slot h e =
      of_opened store place slot (slice_get store.volumes place) refl (subst (λ s. IsSlot (length store.tables.disks) place s (slice_get store.volumes place)) e (h.slots place))

pub positive : (n : ℕ) → (n ≡ 0 → ⊥) → 1 ≤ n
positive n h = elim (cases_lt 0 n) [ inl l ↦ l | inr g ↦ absurd (h (omega (arith, g))) ]

none_at : (volumes : List (Option Volume)) (vid : ℕ) → (vid ≡ 0 → ⊥) → volume_in (slice_get volumes (vid - 1)) ≡ None → volume_at volumes vid ≡ None
none_at volumes vid some none = elim (tells vid 0) [
  | inl zero_ ↦ absurd (some zero_.1)
  | inr more ↦ ap (λ (b : Bool). cond b None (volume_in (slice_get volumes (vid - 1)))) more.0 ∙ none
]

-- a disk of the store
pub record IsNumber (disks : List Disk) (disk : ℕ) : Type 0 where
  pub first : 1 ≤ disk
  pub last : disk ≤ length disks

pub disk_there : (disks : List Disk) (disk : ℕ) (found : Disk) → disk_at disks disk ≡ Some found → IsNumber disks disk
disk_there disks disk found h = elim (tells disk 0) [
  | inl zero_ ↦ absurd (let e : None ≡ Some found = sym (ap (λ (b : Bool). cond b None (slice_get disks (disk - 1))) zero_.0) ∙ h in cc)
  | inr more ↦
      let at : slice_get disks (disk - 1) ≡ Some found = sym (ap (λ (b : Bool). cond b None (slice_get disks (disk - 1))) more.0) ∙ h in
      let within = slice_get_within disks (disk - 1) found at in
      let some : 1 ≤ disk = positive disk more.1 in
      record { first = some; last = omega (arith, within, some) }
]

module _ {S E : Type 0} (shelf_seen : S → ShelfView E) (seen : E → FileView) where
  pub fits_disk : (store : StoreOver S E) (place disk : ℕ) (opened : OpenedOver S E) → IsStore store → slice_get store.volumes place ≡ Some (Some opened) → IsNumber store.tables.disks disk
      → IsDisk (shape_of (way_at shelf_seen seen opened).origin) disk
  fits_disk store place disk opened h e n =
      let there = opened_there store place opened h e in
      let disks = there.is.disks_are in
      let last = n.last in
      record { first = n.first; last = omega (arith, disks, last) }

  -- ---- shelves

  slot_over : (vid : ℕ) (old new : Option (Option (OpenedOver S E))) (turns : List Turn) (farm : FarmView S) → IsSlotSession shelf_seen seen old new turns → AreShelvesOf shelf_seen vid old farm → AreShelvesOf shelf_seen vid new farm
  slot_over vid (Some (Some old)) (Some (Some new)) turns farm h out =
      let disks : new.volume.world.shape.disks ≡ old.volume.world.shape.disks = ap (λ (o : Origin). o.disks) h.goes.origin in
      subst (λ (n : ℕ). AreOut vid 0 (n + 1) farm) (sym disks) out
  slot_over vid (Some (Some old)) (Some None) turns farm h out = absurd h
  slot_over vid (Some (Some old)) None turns farm h out = absurd h
  slot_over vid (Some None) (Some (Some new)) turns farm h out = absurd h
  slot_over vid (Some None) (Some None) turns farm h out = out
  slot_over vid (Some None) None turns farm h out = absurd h
  slot_over vid None (Some new) turns farm h out = absurd h
  slot_over vid None None turns farm h out = out

  -- turns of volumes leave their shelves where they are
  pub over_sessions : (old new : StoreOver S E) (steps : List Step) (farm : FarmView S) → AreSessions shelf_seen seen old.volumes new.volumes steps → IsOver shelf_seen old farm → IsOver shelf_seen new farm
  over_sessions old new steps farm h over place = slot_over (place + 1) (slice_get old.volumes place) (slice_get new.volumes place) (turns_at place steps) farm (h place) (over place)

-- ---- the place of a number

module _ {S E : Type 0} where
  at_place : (volumes : List (Option (OpenedOver S E))) (vid count : ℕ) (found : Option (OpenedOver S E)) → (vid ≡ 0 → ⊥) → vid ≤ count → count ≡ length volumes → found ≡ get_or volumes (vid - 1) found → slice_get volumes (vid - 1) ≡ Some found
  at_place volumes vid count found some within counted value =
      let first : 1 ≤ vid = positive vid some in
      slice_get-get_or volumes (vid - 1) found (omega (arith, first, within, counted)) ∙ ap (λ o. Some o) (sym value)

  pub is_place : (store : StoreOver S E) (vid count : ℕ) (found : Option (OpenedOver S E)) (opened : OpenedOver S E) → IsStore store → (vid ≡ 0 → ⊥) → vid ≤ count → count ≡ length store.volumes → found ≡ get_or store.volumes (vid - 1) found
      → found ≡ Some opened → IsPlace store vid (vid - 1)
  is_place store vid count found opened sound some within counted value is =
      let there = at_place store.volumes vid count found some within counted value ∙ ap (λ o. Some o) is in
      let slot = opened_there store (vid - 1) opened sound there in
      record { is = refl; volume = slot.slot; held = volume_stands store.tables.volumes vid slot.slot some slot.there; opened = opened; there = there }

  none_slot : (disks place : ℕ) (slot : Option (Option Volume)) (opened : Option (Option (OpenedOver S E))) → opened ≡ Some None → IsSlot disks place slot opened → volume_in slot ≡ None
  none_slot disks place (Some (Some slot)) (Some (Some opened)) e h = absurd (cc e)
  none_slot disks place (Some (Some slot)) (Some None) e h = absurd h
  none_slot disks place (Some (Some slot)) None e h = absurd h
  none_slot disks place (Some None) opened e h = refl
  none_slot disks place None opened e h = refl

  pub no_place : (store : StoreOver S E) (vid count : ℕ) (found : Option (OpenedOver S E)) → IsStore store → (vid ≡ 0 → ⊥) → vid ≤ count → count ≡ length store.volumes → found ≡ get_or store.volumes (vid - 1) found → found ≡ None
      → volume_at store.tables.volumes vid ≡ None
  no_place store vid count found sound some within counted value is =
      let there = at_place store.volumes vid count found some within counted value ∙ ap (λ o. Some o) is in
      none_at store.tables.volumes vid some (none_slot (length store.tables.disks) (vid - 1) (slice_get store.tables.volumes (vid - 1)) (slice_get store.volumes (vid - 1)) there (sound.slots (vid - 1)))

  pub zero_place : (store : StoreOver S E) (vid : ℕ) → vid ≡ 0 → volume_at store.tables.volumes vid ≡ None
  zero_place store vid zero_ = ap (λ (n : ℕ). volume_at store.tables.volumes n) zero_

  past_slot : (disks place : ℕ) (slot : Option (Option Volume)) (opened : Option (Option (OpenedOver S E))) → opened ≡ None → IsSlot disks place slot opened → volume_in slot ≡ None
  past_slot disks place (Some (Some slot)) (Some (Some opened)) e h = absurd (cc e)
  past_slot disks place (Some (Some slot)) (Some None) e h = absurd h
  past_slot disks place (Some (Some slot)) None e h = absurd h
  past_slot disks place (Some None) opened e h = refl
  past_slot disks place None opened e h = refl

  pub past_place : (store : StoreOver S E) (vid count : ℕ) → IsStore store → (vid ≡ 0 → ⊥) → count < vid → count ≡ length store.volumes → volume_at store.tables.volumes vid ≡ None
  past_place store vid count sound some past counted =
      let first : 1 ≤ vid = positive vid some in
      none_at store.tables.volumes vid some
      (past_slot (length store.tables.disks) (vid - 1) (slice_get store.tables.volumes (vid - 1)) (slice_get store.volumes (vid - 1)) (slice_get_past store.volumes (vid - 1) (omega (arith, first, past, counted))) (sound.slots (vid - 1)))
