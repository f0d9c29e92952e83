-- Each broken disk breaks in a volume.
use Rattle.std.proofs.Common.{◌≡◌, ◌∙◌, sym, ap, refl, subst, ℕ, zero, suc, inl, inr, ◌+◌, ◌-◌, ◌<◌, ◌≤◌, ◌==◌, Bool, true, false, cond, List, [], ◌∷◌, length, drop, Option, Some, None, Result, Ok, Err, arith}
use Rattle.std.specs.Prelude.{slice_get, is_some}
use Rattle.std.proofs.lemmas.List.{drop_all}
use Rattle.std.proofs.lemmas.Option.{slice_get_past}
use Rattle.disk_base.specs.Disk.{FileView}
use Rattle.disk_base.specs.Shelves.{ShelfView}
use Rattle.volume_world.specs.declared.fault.StepFault.{StepFault}
use Rattle.cluster_admin.specs.Cluster.{State}
use Rattle.cluster_admin.specs.Disks.{disk_at, is_bad}
use Rattle.cluster_admin.specs.declared.disks.Disk.{Disk}
use Rattle.volume_turns.specs.declared.command.VolumeCommand.TheVariants as turns
use Rattle.volume_turns.specs.declared.reply.VolumeReply.{VolumeReply}
use Rattle.volume_turns.specs.Answers.{Replied}
use Rattle.cluster_store.specs.declared.reply.Reply.{Reply}
use Rattle.cluster_store.specs.Plan.{Plan}
use Rattle.cluster_store.specs.Answers.{bad_disks, breaks_in, is_bad_at}
use Rattle.cluster_store.specs.Store.{OpenedOver, StoreOver, IsStore, IsFor, PlaysAt}
use Rattle.cluster_store.specs.Asking.{Reaches, Played}
use Rattle.cluster_store.proofs.Lists.{drop_at, get_set_same, tells}
use Rattle.cluster_store.proofs.Each.{StandsThere}
use Rattle.cluster_admin.specs.Volumes.{volume_at}
use Rattle.cluster_admin.specs.declared.volumes.Volume.{Volume}
use Rattle.cluster_store.proofs.Stores.{stands_at}
use Rattle.cluster_store.proofs.Fits.{IsNumber, fits_disk, slot_there}
use Rattle.cluster_store.proofs.OneTurn.{reach_none, reach_more, reach_off, reach_over, same_tables}

number_at : (disks : List Disk) (at : ℕ) → disk_at disks (at + 1) ≡ slice_get disks at
number_at disks at = elim (tells (at + 1) 0) [
  | inl zero_ ↦ absurd (let e = zero_.1 in omega (arith, e))
  | inr more ↦
      let same : at + 1 - 1 ≡ at = omega arith in
      ap (λ (b : Bool). cond b None (slice_get disks (at + 1 - 1))) more.0 ∙ ap (slice_get disks) same
]

-- the disks from a place on, by whether the first of them is broken
after_disk : (disks : List Disk) (at : ℕ) (found : Option Disk) → slice_get disks at ≡ found → at < length disks
    → bad_disks (at + 1) (drop at disks) ≡ cond (is_bad_at found) ((at + 1) ∷ bad_disks (at + 1 + 1) (drop (at + 1) disks)) (bad_disks (at + 1 + 1) (drop (at + 1) disks))
after_disk disks at (Some disk) e within = ap (bad_disks (at + 1)) (drop_at disks at disk e)
after_disk disks at None e within = absurd (missing disks at within e)
  where
    missing : (ds : List Disk) (k : ℕ) → k < length ds → slice_get ds k ≡ None → ⊥
    missing [] k w n = omega (arith, w)
    missing (d ∷ ds) zero w n = cc n
    missing (d ∷ ds) (suc k) w n = missing ds k (omega (arith, w)) n

-- a volume of the tables stands at its place
module _ {S E : Type 0} where
  by_volume : (store : StoreOver S E) (vid : ℕ) (found : Option Volume) → IsStore store → volume_at store.tables.volumes vid ≡ found → is_some found ≡ true → StandsThere store.volumes (vid - 1)
  by_volume store vid (Some volume) sound e h =
      let at = stands_at store.tables.volumes vid volume e in
      let opened = slot_there store (vid - 1) volume sound at.there in
      record { opened = opened.opened; there = opened.there }
  by_volume store vid None sound e h = absurd (cc h)

  pub volume_stands_there : (store : StoreOver S E) (vid : ℕ) → IsStore store → is_some (volume_at store.tables.volumes vid) ≡ true → StandsThere store.volumes (vid - 1)
  volume_stands_there store vid sound h = by_volume store vid (volume_at store.tables.volumes vid) sound refl h

module _ {S E : Type 0} (shelf_seen : S → ShelfView E) (seen : E → FileView) where
  pub record HasBroken (old now : StoreOver S E) (place at : ℕ) (reply : Reply) : Type 0 where
    pub tables_are : now.tables ≡ old.tables
    pub broken : Reaches shelf_seen seen old now (breaks_in old.tables place (bad_disks 1 old.tables.disks) reply) (breaks_in old.tables place (bad_disks (at + 1) (drop at old.tables.disks)) reply)
    pub there : StandsThere now.volumes place

  pub broken_none : (store : StoreOver S E) (place : ℕ) (reply : Reply) → IsStore store → StandsThere store.volumes place → HasBroken store store place 0 reply
  broken_none store place reply is there = record { tables_are = refl; broken = reach_none shelf_seen seen store (breaks_in store.tables place (bad_disks 1 store.tables.disks) reply) is; there = there }

  -- what is asked next
  next_broken : (old now : StoreOver S E) (place at : ℕ) (reply : Reply) (b : Bool) → at < length old.tables.disks → is_bad_at (disk_at now.tables.disks (at + 1)) ≡ b → HasBroken old now place at reply
      → Reaches shelf_seen seen old now (breaks_in old.tables place (bad_disks 1 old.tables.disks) reply)
      (breaks_in old.tables place (cond b ((at + 1) ∷ bad_disks (at + 1 + 1) (drop (at + 1) old.tables.disks)) (bad_disks (at + 1 + 1) (drop (at + 1) old.tables.disks))) reply)
  next_broken old now place at reply b within bad h =
      let is : is_bad_at (slice_get old.tables.disks at) ≡ b = ap is_bad_at (sym (number_at old.tables.disks at) ∙ ap (λ (t : State). disk_at t.disks (at + 1)) (sym h.tables_are)) ∙ bad in
      subst (λ (ds : List ℕ). Reaches shelf_seen seen old now (breaks_in old.tables place (bad_disks 1 old.tables.disks) reply) (breaks_in old.tables place ds reply))
      (after_disk old.tables.disks at (slice_get old.tables.disks at) refl within
      ∙ ap (λ (t : Bool). cond t ((at + 1) ∷ bad_disks (at + 1 + 1) (drop (at + 1) old.tables.disks)) (bad_disks (at + 1 + 1) (drop (at + 1) old.tables.disks))) is)
      h.broken

  stands_on : (now new : StoreOver S E) (place disk : ℕ) (given : Replied) → PlaysAt shelf_seen seen now new place (turns.Break disk) given → StandsThere new.volumes place
  stands_on now new place disk given p = record { opened = p.after; there = ap (λ (s : StoreOver S E). slice_get s.volumes place) p.new_is ∙ get_set_same now.volumes place (Some p.after) (Some p.before) p.there }

  pub broken_for : (old now : StoreOver S E) (place at : ℕ) (reply : Reply) → at < length old.tables.disks → HasBroken old now place at reply → IsFor shelf_seen seen now.volumes place (turns.Break (at + 1))
  broken_for old now place at reply within h =
      let same = ap (λ (t : State). length t.disks) h.tables_are in
      let number : IsNumber now.tables.disks (at + 1) = record { first = omega arith; last = omega (arith, within, same) } in
      record { opened = h.there.opened; there = h.there.there; fits = fits_disk shelf_seen seen now place (at + 1) h.there.opened h.broken.is h.there.there number }

  pub broken_on : (old now new : StoreOver S E) (place at : ℕ) (reply : Reply) (given : Replied) (told : VolumeReply) → given ≡ Ok told → at < length old.tables.disks → is_bad_at (disk_at now.tables.disks (at + 1)) ≡ true
      → HasBroken old now place at reply → PlaysAt shelf_seen seen now new place (turns.Break (at + 1)) given → HasBroken old new place (at + 1) reply
  broken_on old now new place at reply given told is within bad h p = record {
    tables_are = same_tables shelf_seen seen now new place (turns.Break (at + 1)) given p ∙ h.tables_are;
    broken = reach_more shelf_seen seen old now new (breaks_in old.tables place (bad_disks 1 old.tables.disks) reply) old.tables place (turns.Break (at + 1))
        (λ given. breaks_in old.tables place (bad_disks (at + 1 + 1) (drop (at + 1) old.tables.disks)) reply) told (next_broken old now place at reply true within bad h)
        (subst (λ (r : Replied). PlaysAt shelf_seen seen now new place (turns.Break (at + 1)) r) is p);
    there = stands_on now new place (at + 1) given p;
  }

  pub broken_skip : (old now : StoreOver S E) (place at : ℕ) (reply : Reply) → at < length old.tables.disks → is_bad_at (disk_at now.tables.disks (at + 1)) ≡ false → HasBroken old now place at reply → HasBroken old now place (at + 1) reply
  broken_skip old now place at reply within bad h = record { tables_are = h.tables_are; broken = next_broken old now place at reply false within bad h; there = h.there }

  pub broken_off : (old now new : StoreOver S E) (place at : ℕ) (reply : Reply) (given : Replied) (fault : StepFault) → given ≡ Err fault → at < length old.tables.disks → is_bad_at (disk_at now.tables.disks (at + 1)) ≡ true
      → HasBroken old now place at reply → PlaysAt shelf_seen seen now new place (turns.Break (at + 1)) given → Played shelf_seen seen (breaks_in old.tables place (bad_disks 1 old.tables.disks) reply) old new (Err fault)
  broken_off old now new place at reply given fault is within bad h p =
      reach_off shelf_seen seen old now new (breaks_in old.tables place (bad_disks 1 old.tables.disks) reply) old.tables place (turns.Break (at + 1))
      (λ given. breaks_in old.tables place (bad_disks (at + 1 + 1) (drop (at + 1) old.tables.disks)) reply) fault (next_broken old now place at reply true within bad h) h.tables_are
      (subst (λ (r : Replied). PlaysAt shelf_seen seen now new place (turns.Break (at + 1)) r) is p)

  pub broken_all : (old now : StoreOver S E) (place at : ℕ) (reply : Reply) → length old.tables.disks ≤ at → HasBroken old now place at reply → Played shelf_seen seen (breaks_in old.tables place (bad_disks 1 old.tables.disks) reply) old now (Ok reply)
  broken_all old now place at reply past h =
      reach_over shelf_seen seen old now (breaks_in old.tables place (bad_disks 1 old.tables.disks) reply) old.tables old.tables reply
      (subst (λ (ds : List Disk). Reaches shelf_seen seen old now (breaks_in old.tables place (bad_disks 1 old.tables.disks) reply) (breaks_in old.tables place (bad_disks (at + 1) ds) reply)) (drop_all at old.tables.disks past) h.broken) h.tables_are
