-- What always holds of a store goes on holding.
use Rattle.std.proofs.Common.{◌≡◌, ◌∙◌, sym, ap, refl, subst, ℕ, zero, suc, inl, inr, ◌+◌, ◌-◌, ◌<◌, ◌≤◌, ◌==◌, ◌⊎◌, Bool, true, false, cond, List, [], ◌∷◌, ◌++◌, length, Option, Some, None, arith}
use Rattle.std.specs.Prelude.{slice_get, slice_set}
use Rattle.std.proofs.lemmas.List.{length-set}
use Rattle.std.specs.Map.{lookup}
use Rattle.std.specs.Str.{bytes_eq}
use Rattle.std.proofs.lemmas.Option.{slice_get_within}
use Rattle.blob_access.specs.Coding.{coder_shape}
use Rattle.cluster_admin.specs.Picking.{last_in, with_last}
use Rattle.disk_base.specs.Disk.{FileView}
use Rattle.disk_base.specs.Shelves.{ShelfView}
use Rattle.cluster_admin.specs.declared.names.Object.{Object}
use Rattle.cluster_admin.specs.declared.disks.Disk.{Disk}
use Rattle.cluster_admin.specs.declared.volumes.Volume.{Volume}
use Rattle.cluster_admin.specs.Cluster.{State, fresh}
use Rattle.cluster_admin.specs.Volumes.{volume_at, volume_in}
use Rattle.volume_world.specs.Way.{Origin}
use Rattle.cluster_store.specs.Lines.{breaks_disk, with_name}
use Rattle.cluster_store.specs.Store.{OpenedOver, StoreOver, over, IsOpened, IsSlot, IsHeld, IsStore, way_at}
use Rattle.cluster_store.proofs.Lookups.{or_else, lookup_more}
use Rattle.cluster_store.proofs.Lists.{get_set_same, get_set_other, get_last, get_before, get_none, tells}

held_disks : (tables : State) (disks : List Disk) (object : Object) → IsHeld tables object → IsHeld (record tables { disks = disks }) object
held_disks tables disks object k = record { volume = k.volume; there = k.there; first = k.first; last = k.last; bids = k.bids }

held_name : (tables : State) (name : List ℕ) (at object : Object) → IsHeld tables object → IsHeld (with_name tables name at) object
held_name tables name at object k = record { volume = k.volume; there = k.there; first = k.first; last = k.last; bids = k.bids }

found_name : (tables : State) (name : List ℕ) (at : Object) → IsHeld tables at → (object : Object) (found : Option Object) (b : Bool) → ((other : Object) → found ≡ Some other → IsHeld tables other)
    → or_else found (cond b (Some at) None) ≡ Some object → IsHeld (with_name tables name at) object
found_name tables name at new object (Some other) b h e = held_name tables name at object (h object e)
found_name tables name at new object None true h e = let same : at ≡ object = cc e in held_name tables name at object (subst (λ (o : Object). IsHeld tables o) same new)
found_name tables name at new object None false h e = absurd (cc e)

module _ {S E : Type 0} where
  -- ---- a volume plays

  -- it keeps its number, mode and disks, and its coder's shape
  pub record Keeps (before after : OpenedOver S E) : Type 0 where
    pub vid : after.volume.world.vid ≡ before.volume.world.vid
    pub mode : after.volume.world.shape.mode ≡ before.volume.world.shape.mode
    pub disks : after.volume.world.shape.disks ≡ before.volume.world.shape.disks
    pub shape : after.shape ≡ before.shape

  slot_kept : (disks place : ℕ) (slot : Option (Option Volume)) (before after : OpenedOver S E) → Keeps before after → IsSlot disks place slot (Some (Some before)) → IsSlot disks place slot (Some (Some after))
  slot_kept disks place (Some (Some slot)) before after k h = record { number = k.vid ∙ h.number; disks_are = k.disks ∙ h.disks_are; mode = k.mode ∙ h.mode; coder = k.shape ∙ h.coder }
  slot_kept disks place (Some None) before after k h = absurd h
  slot_kept disks place None before after k h = absurd h

  pub store_played : (tables : State) (volumes : List (Option (OpenedOver S E))) (place : ℕ) (before after : OpenedOver S E) → slice_get volumes place ≡ Some (Some before) → Keeps before after
      → IsStore (over tables volumes) → IsStore (over tables (slice_set volumes place (Some after)))
  store_played tables volumes place before after there k h = record {
    slots = λ other. elim (tells place other) [
      | inl same ↦
          subst (λ (q : ℕ). IsSlot (length tables.disks) q (slice_get tables.volumes q) (slice_get (slice_set volumes place (Some after)) q)) same.1
          (subst (λ slot. IsSlot (length tables.disks) place (slice_get tables.volumes place) slot) (sym (get_set_same volumes place (Some after) (Some before) there))
          (slot_kept (length tables.disks) place (slice_get tables.volumes place) before after k (subst (λ slot. IsSlot (length tables.disks) place (slice_get tables.volumes place) slot) there (h.slots place))))
      | inr apart ↦ subst (λ slot. IsSlot (length tables.disks) other (slice_get tables.volumes other) slot) (sym (get_set_other volumes place other (Some after) apart.1)) (h.slots other)
    ];
    held = h.held;
    none = λ e. ap (λ vs. slice_set vs place (Some after)) (h.none e);
  }

  -- ---- tables

  -- as many disks as before
  pub store_disks : (tables : State) (disks : List Disk) (volumes : List (Option (OpenedOver S E))) → length disks ≡ length tables.disks → IsStore (over tables volumes)
      → IsStore (over (record tables { disks = disks }) volumes)
  store_disks tables disks volumes same h = record {
    slots = λ place. subst (λ (n : ℕ). IsSlot n place (slice_get tables.volumes place) (slice_get volumes place)) (sym same) (h.slots place);
    held = λ name object found. held_disks tables disks object (h.held name object found);
    none = λ e. h.none (sym same ∙ e);
  }

  -- the first disks
  slot_empty : (disks other place : ℕ) (slot : Option (Option Volume)) (none : Option (Option (OpenedOver S E))) → none ≡ None → IsSlot disks place slot none → IsSlot other place slot none
  slot_empty disks other place None None e h = tt
  slot_empty disks other place (Some None) None e h = absurd h
  slot_empty disks other place (Some (Some slot)) None e h = absurd h
  slot_empty disks other place slot (Some opened) e h = absurd (cc e)

  pub store_first_disks : (tables : State) (disks : List Disk) (volumes : List (Option (OpenedOver S E))) → length tables.disks ≡ 0 → IsStore (over tables volumes) → IsStore (over (record tables { disks = disks }) volumes)
  store_first_disks tables disks volumes empty h =
      let none = h.none empty in
      subst (λ vs. IsStore (over (record tables { disks = disks }) vs)) (sym none) (record {
        slots = λ place. slot_empty (length tables.disks) (length disks) place (slice_get tables.volumes place) None refl (subst (λ vs. IsSlot (length tables.disks) place (slice_get tables.volumes place) (slice_get vs place)) none (h.slots place));
        held = λ name object found. held_disks tables disks object (h.held name object found);
        none = λ e. refl;
      })

  -- a name more
  pub store_named : (tables : State) (name : List ℕ) (at : Object) (volumes : List (Option (OpenedOver S E))) → IsHeld tables at → IsStore (over tables volumes) → IsStore (over (with_name tables name at) volumes)
  store_named tables name at volumes new h = record {
    slots = h.slots;
    held = λ other object found.
        found_name tables name at new object (lookup (bytes_eq other) tables.names) (bytes_eq other name) (λ one e. h.held other one e) (sym (lookup_more other tables.names (name, at)) ∙ found);
    none = h.none;
  }

-- ---- blob numbers are spent

-- the volume of a number stands at the place before it
pub record StandsAt (volumes : List (Option Volume)) (vid : ℕ) (volume : Volume) : Type 0 where
  pub first : vid ≡ 0 → ⊥
  pub there : slice_get volumes (vid - 1) ≡ Some (Some volume)

in_slot : (slot : Option (Option Volume)) (volume : Volume) → volume_in slot ≡ Some volume → slot ≡ Some (Some volume)
in_slot (Some (Some other)) volume h = ap Some h
in_slot (Some None) volume h = absurd (cc h)
in_slot None volume h = absurd (cc h)

pub stands_at : (volumes : List (Option Volume)) (vid : ℕ) (volume : Volume) → volume_at volumes vid ≡ Some volume → StandsAt volumes vid volume
stands_at volumes vid volume h = elim (tells vid 0) [
  | inl zero_ ↦ absurd (let e : None ≡ Some volume = sym (ap (λ (b : Bool). cond b None (volume_in (slice_get volumes (vid - 1)))) zero_.0) ∙ h in cc)
  | inr more ↦ record {
    first = more.1;
    there = in_slot (slice_get volumes (vid - 1)) volume (sym (ap (λ (b : Bool). cond b None (volume_in (slice_get volumes (vid - 1)))) more.0) ∙ h);
  }
]

pub volume_stands : (volumes : List (Option Volume)) (vid : ℕ) (volume : Volume) → (vid ≡ 0 → ⊥) → slice_get volumes (vid - 1) ≡ Some (Some volume) → volume_at volumes vid ≡ Some volume
volume_stands volumes vid volume first there = elim (tells vid 0) [
  | inl zero_ ↦ absurd (first zero_.1)
  | inr more ↦ ap (λ (b : Bool). cond b None (volume_in (slice_get volumes (vid - 1)))) more.0 ∙ ap volume_in there
]

held_other : (tables : State) (place : ℕ) (one other : Volume) → slice_get tables.volumes place ≡ Some (Some one) → (object : Object) → IsHeld tables object
    → IsHeld (record tables { volumes = slice_set tables.volumes place (Some other) }) object
held_other tables place one other there object k =
    let at = stands_at tables.volumes object.vid k.volume k.there in
    elim (tells place (object.vid - 1)) [
      | inl same ↦ record {
        volume = other;
        there = volume_stands (slice_set tables.volumes place (Some other)) object.vid other at.first
            (subst (λ (q : ℕ). slice_get (slice_set tables.volumes place (Some other)) q ≡ Some (Some other)) same.1 (get_set_same tables.volumes place (Some other) (Some one) there));
        first = k.first;
        last = k.last;
        bids = k.bids;
      }
      | inr apart ↦ record {
        volume = k.volume;
        there = volume_stands (slice_set tables.volumes place (Some other)) object.vid k.volume at.first (get_set_other tables.volumes place (object.vid - 1) (Some other) apart.1 ∙ at.there);
        first = k.first;
        last = k.last;
        bids = k.bids;
      }
    ]

-- another volume of the same mode is at a place
module _ {S E : Type 0} where
  slot_other : (disks place : ℕ) (one other : Volume) (slot : Option (Option (OpenedOver S E))) → other.mode ≡ one.mode → IsSlot disks place (Some (Some one)) slot → IsSlot disks place (Some (Some other)) slot
  slot_other disks place one other (Some (Some opened)) same h = record { number = h.number; disks_are = h.disks_are; mode = h.mode ∙ sym same; coder = h.coder ∙ ap coder_shape (sym same) }
  slot_other disks place one other (Some None) same h = absurd h
  slot_other disks place one other None same h = absurd h

  pub store_other : (tables : State) (place : ℕ) (one other : Volume) (volumes : List (Option (OpenedOver S E))) → slice_get tables.volumes place ≡ Some (Some one) → other.mode ≡ one.mode → IsStore (over tables volumes)
      → IsStore (over (record tables { volumes = slice_set tables.volumes place (Some other) }) volumes)
  store_other tables place one other volumes there same h = record {
    slots = λ q. elim (tells place q) [
      | inl is ↦
          subst (λ (r : ℕ). IsSlot (length tables.disks) r (slice_get (slice_set tables.volumes place (Some other)) r) (slice_get volumes r)) is.1
          (subst (λ slot. IsSlot (length tables.disks) place slot (slice_get volumes place)) (sym (get_set_same tables.volumes place (Some other) (Some one) there))
          (slot_other (length tables.disks) place one other (slice_get volumes place) same (subst (λ slot. IsSlot (length tables.disks) place slot (slice_get volumes place)) there (h.slots place))))
      | inr apart ↦ subst (λ slot. IsSlot (length tables.disks) q slot (slice_get volumes q)) (sym (get_set_other tables.volumes place q (Some other) apart.1)) (h.slots q)
    ];
    held = λ name object found. held_other tables place one other there object (h.held name object found);
    none = h.none;
  }

  -- the numbers up to this one are given in a volume
  last_given : (tables : State) (vid last : ℕ) (found : Option Volume) (volumes : List (Option (OpenedOver S E))) → volume_at tables.volumes vid ≡ found → IsStore (over tables volumes)
      → IsStore (over (record tables { volumes = last_in tables.volumes vid last found }) volumes)
  last_given tables vid last None volumes is h = h
  last_given tables vid last (Some volume) volumes is h =
      store_other tables (vid - 1) volume (record volume { last = last }) volumes (stands_at tables.volumes vid volume is).there refl h

  pub store_spent : (tables : State) (vid last : ℕ) (volumes : List (Option (OpenedOver S E))) → IsStore (over tables volumes) → IsStore (over (record tables { volumes = with_last tables.volumes vid last }) volumes)
  store_spent tables vid last volumes h = last_given tables vid last (volume_at tables.volumes vid) volumes refl h

  -- ---- a volume more

  -- both lists are equally long
  same_length : (disks place : ℕ) (slots : List (Option Volume)) (volumes : List (Option (OpenedOver S E))) → ((q : ℕ) → IsSlot disks (place + q) (slice_get slots q) (slice_get volumes q)) → length volumes ≡ length slots
  same_length disks place [] [] h = refl
  same_length disks place [] (opened ∷ volumes) h = absurd (h 0)
  same_length disks place (Some slot ∷ slots) [] h = absurd (h 0)
  same_length disks place (None ∷ slots) [] h = absurd (h 0)
  same_length disks place (slot ∷ slots) (opened ∷ volumes) h =
      ap suc (same_length disks (place + 1) slots volumes (λ q. subst (λ (r : ℕ). IsSlot disks r (slice_get slots q) (slice_get volumes q)) (omega arith) (h (suc q))))

  pub equally_long : (store : StoreOver S E) → IsStore store → length store.volumes ≡ length store.tables.volumes
  equally_long store h = same_length (length store.tables.disks) 0 store.tables.volumes store.volumes
      (λ q. subst (λ (r : ℕ). IsSlot (length store.tables.disks) r (slice_get store.tables.volumes q) (slice_get store.volumes q)) (omega arith) (h.slots q))

  -- one slot more, of both
  pub store_more : (tables : State) (slot : Option Volume) (volumes : List (Option (OpenedOver S E))) (opened : Option (OpenedOver S E)) → IsStore (over tables volumes)
      → IsSlot (length tables.disks) (length tables.volumes) (Some slot) (Some opened) → (length tables.disks ≡ 0 → ⊥)
      → IsStore (over (record tables { volumes = tables.volumes ++ slot ∷ [] }) (volumes ++ opened ∷ []))
  store_more tables slot volumes opened h one some =
      let long = equally_long (over tables volumes) h in
      record {
        slots = λ q. elim (tells (length tables.volumes) q) [
          | inl is ↦
              subst (λ (r : ℕ). IsSlot (length tables.disks) r (slice_get (tables.volumes ++ slot ∷ []) r) (slice_get (volumes ++ opened ∷ []) r)) is.1
              (subst (λ s. IsSlot (length tables.disks) (length tables.volumes) s (slice_get (volumes ++ opened ∷ []) (length tables.volumes))) (sym (get_last tables.volumes slot))
              (subst (λ s. IsSlot (length tables.disks) (length tables.volumes) (Some slot) s) (sym (ap (λ (n : ℕ). slice_get (volumes ++ opened ∷ []) n) (sym long) ∙ get_last volumes opened)) one))
          | inr apart ↦
              subst (λ s. IsSlot (length tables.disks) q s (slice_get (volumes ++ opened ∷ []) q)) (sym (get_before tables.volumes slot q apart.1))
              (subst (λ s. IsSlot (length tables.disks) q (slice_get tables.volumes q) s) (sym (get_before volumes opened q (λ e. apart.1 (sym long ∙ e)))) (h.slots q))
        ];
        held = λ name object found. held_one object (h.held name object found);
        none = λ e. absurd (some e);
      }
    where
      held_one : (object : Object) → IsHeld tables object → IsHeld (record tables { volumes = tables.volumes ++ slot ∷ [] }) object
      held_one object k =
          let at = stands_at tables.volumes object.vid k.volume k.there in
          let within = slice_get_within tables.volumes (object.vid - 1) (Some k.volume) at.there in
          record {
            volume = k.volume;
            there = volume_stands (tables.volumes ++ slot ∷ []) object.vid k.volume at.first (get_before tables.volumes slot (object.vid - 1) (λ e. absurd (omega (arith, e, within))) ∙ at.there);
            first = k.first;
            last = k.last;
            bids = k.bids;
          }

  -- before the first command
  pub store_fresh : (placers : ℕ) (tables : State) (volumes : List (Option (OpenedOver S E))) → tables ≡ fresh placers → volumes ≡ [] → IsStore (over tables volumes)
  store_fresh placers tables volumes t v =
      subst (λ (s : State). IsStore (over s volumes)) (sym t) (subst (λ vs. IsStore (over (fresh placers) vs)) (sym v) (record {
        slots = λ place. tt;
        held = λ name object found. absurd (cc found);
        none = λ e. refl;
      }))

  -- a disk is broken
  pub broken_sound : (tables after : State) (volumes : List (Option (OpenedOver S E))) (disk : ℕ) → after ≡ breaks_disk tables disk → IsStore (over tables volumes) → IsStore (over after volumes)
  broken_sound tables after volumes disk is h =
      subst (λ (t : State). IsStore (over t volumes)) (sym is) (store_disks tables (breaks_disk tables disk).disks volumes (length-set tables.disks (disk - 1) _) h)
