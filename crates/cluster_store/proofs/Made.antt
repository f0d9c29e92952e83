-- A store with a volume more, or with a number that is lost.
use Rattle.std.proofs.Common.{◌≡◌, ◌∙◌, sym, ap, refl, subst, ℕ, zero, suc, inl, inr, ◌+◌, ◌-◌, ◌<◌, ◌≤◌, ◌==◌, Bool, true, false, cond, List, [], ◌∷◌, ◌++◌, length, Option, Some, None, Result, Ok, Err, arith}
use Rattle.std.specs.Prelude.{slice_get, slice_set, is_some, nat_lt}
use Rattle.disk_base.specs.Disk.{FileView}
use Rattle.disk_base.specs.Shelves.{ShelfView}
use Rattle.disk_base.specs.Farms.{FarmView}
use Rattle.code_mode.specs.declared.mode.Mode.{Mode}
use Rattle.code_mode.specs.declared.mode.Mode.TheVariants as modes
use Rattle.code_mode.specs.Mode.{total_count}
use Rattle.unit_id.specs.declared.homes.Home.{Home}
use Rattle.blob_access.specs.Coding.{coder_shape}
use Rattle.cluster_admin.specs.Cluster.{State}
use Rattle.cluster_admin.specs.declared.names.Object.{Object}
use Rattle.cluster_admin.specs.declared.volumes.Volume.{Volume}
use Rattle.cluster_admin.specs.Drawing.{with_volume}
use Rattle.cluster_admin.specs.NewHomes.{AreNewHomes}
use Rattle.cluster_admin.specs.Picking.{without_volume, without_slot}
use Rattle.volume_world.specs.declared.world_fault.WorldFault.{WorldFault}
use Rattle.farm_volume.specs.Lending.{AreOut, AreBack, OthersStay}
use Rattle.volume_maker.specs.Making.{IsGiven, IsNext, IsSpent, next_number, next_homes}
use Rattle.cluster_store.specs.Store.{OpenedOver, StoreOver, over, IsSlot, IsOpened, IsStore, IsHeld, IsOver, StandsOver, AreShelvesOf}
use Rattle.std.specs.Map.{lookup}
use Rattle.std.specs.Str.{bytes_eq}
use Rattle.cluster_admin.specs.Volumes.{volume_at}
use Rattle.std.proofs.lemmas.List.{length-append}
use Rattle.std.proofs.lemmas.Bool.{ltb-false}
use Rattle.cluster_admin.specs.Disks.{free_count}
use Rattle.cluster_admin.specs.declared.fault.AdminFault.{AdminFault}
use Rattle.cluster_admin.specs.declared.fault.AdminFault.TheVariants as faults
use Rattle.cluster_admin.specs.Refusals.{first_fault, new_volume_fault}
use Rattle.volume_world.specs.declared.fault.StepFault.{StepFault}
use Rattle.cluster_store.specs.declared.reply.Reply.{Reply}
use Rattle.cluster_store.specs.declared.reply.Reply.TheVariants as replies
use Rattle.cluster_store.specs.Answers.{bad_disks, breaks_in}
use Rattle.cluster_store.specs.Asking.{Played}
use Rattle.cluster_store.proofs.Lists.{get_last, tells}
use Rattle.cluster_store.proofs.Stores.{store_more, equally_long, volume_stands}
use Rattle.cluster_store.proofs.Shelves.{over_more, all_back}

some_units : (mode : Mode) → 1 ≤ total_count mode
some_units modes.Ec3P3 = omega arith
some_units modes.Ec6P3 = omega arith
some_units modes.Ec6P6 = omega arith
some_units modes.Ec10P4 = omega arith
some_units modes.Ec12P4 = omega arith
some_units modes.Ec12P9 = omega arith
some_units modes.Ec16P4 = omega arith
some_units modes.Ec15P12 = omega arith

record HasFirst {X : Type 0} (xs : List X) : Type 0 where
  first : X
  there : slice_get xs 0 ≡ Some first

has_first : {X : Type 0} (xs : List X) → 1 ≤ length xs → HasFirst xs
has_first [] h = absurd (omega (arith, h))
has_first (x ∷ xs) h = record { first = x; there = refl }

-- a store that gives a volume has disks
some_disks : (tables : State) (mode : Mode) (disks : List ℕ) → IsGiven mode tables disks → length tables.disks ≡ 0 → ⊥
some_disks tables mode disks given none =
    let count = given.legal.count in
    let some = some_units mode in
    let one = has_first (next_homes tables disks) (omega (arith, count, some)) in
    let there = given.legal.there 0 one.first one.there in
    let first = there.0 in
    let last = there.1 in
    omega (arith, first, last, none)

-- the last slot is emptied
set_last : {X : Type 0} (xs : List X) (x y : X) → slice_set (xs ++ x ∷ []) (length xs) y ≡ xs ++ y ∷ []
set_last [] x y = refl
set_last (z ∷ xs) x y = ap (λ (ys : List _). z ∷ ys) (set_last xs x y)

lost_slot : (volumes : List (Option Volume)) (slot : Option Volume) → without_slot (volumes ++ slot ∷ []) (length volumes + 1) ≡ volumes ++ None ∷ []
lost_slot volumes slot = elim (tells (length volumes + 1) 0) [
  | inl zero_ ↦ absurd (let e = zero_.1 in omega (arith, e))
  | inr more ↦
      let same : length volumes + 1 - 1 ≡ length volumes = omega arith in
      ap (λ (b : Bool). cond b (volumes ++ slot ∷ []) (slice_set (volumes ++ slot ∷ []) (length volumes + 1 - 1) None)) more.0
      ∙ ap (λ (n : ℕ). slice_set (volumes ++ slot ∷ []) n None) same ∙ set_last volumes slot None
]

module _ {S E : Type 0} where
  -- only disks, volumes and names count
  alike : (tables : State) (volumes slots : List (Option Volume)) (opened : List (Option (OpenedOver S E))) (other : State) → other.disks ≡ tables.disks → other.names ≡ tables.names → other.volumes ≡ slots
      → IsStore (over (record tables { volumes = slots }) opened) → IsStore (over other opened)
  alike tables volumes slots opened other d n v h = record {
    slots = λ place. subst (λ ds. IsSlot (length ds) place (slice_get other.volumes place) (slice_get opened place)) (sym d)
        (subst (λ vs. IsSlot (length tables.disks) place (slice_get vs place) (slice_get opened place)) (sym v) (h.slots place));
    held = λ name object found.
        let k = h.held name object (ap (lookup (bytes_eq name)) (sym n) ∙ found) in
        record { volume = k.volume; there = ap (λ vs. volume_at vs object.vid) v ∙ k.there; first = k.first; last = k.last; bids = k.bids };
    none = λ e. h.none (ap length (sym d) ∙ e);
  }

module _ {S E : Type 0} (shelf_seen : S → ShelfView E) (seen : E → FileView) (mode : Mode) (tables new : State) (volumes : List (Option (OpenedOver S E))) (before after : FarmView S) (sound : IsStore (over tables volumes)) where
  long : length volumes ≡ length tables.volumes
  long = equally_long (over tables volumes) sound

  -- ---- a number that is lost

  pub lost_store : (cause : WorldFault) → IsSpent shelf_seen seen mode tables new before after cause → IsStore (over new (volumes ++ None ∷ []))
  lost_store cause s =
      subst (λ (t : State). IsStore (over t (volumes ++ None ∷ []))) (sym s.tables)
      (alike tables tables.volumes (tables.volumes ++ None ∷ []) (volumes ++ None ∷ []) (without_volume (with_volume tables mode s.disks) (next_number tables)) refl refl (lost_slot tables.volumes _)
      (store_more tables None volumes None sound tt (some_disks tables mode s.disks s.given)))

  pub lost_stands : (cause : WorldFault) → IsSpent shelf_seen seen mode tables new before after cause → IsOver shelf_seen (over tables volumes) before → StandsOver shelf_seen (over new (volumes ++ None ∷ [])) after
  lost_stands cause s shelves =
      let number : next_number tables ≡ length volumes + 1 = ap (λ (n : ℕ). n + 1) (sym long) in
      let back = subst (λ (v : ℕ). AreBack v 0 (length tables.disks + 1) after) number s.refused.back in
      let others = subst (λ (v : ℕ). OthersStay v 0 (length tables.disks + 1) before after) number s.refused.others in
      record {
        is = lost_store cause s;
        shelves = over_more shelf_seen (over tables volumes) (over new (volumes ++ None ∷ [])) None before after (length tables.disks + 1) refl others (all_back shelf_seen (over tables volumes) before after (length tables.disks + 1) shelves back others) shelves;
      }

  -- ---- a volume more

  pub made_store : (opened : OpenedOver S E) → IsNext shelf_seen seen mode tables new before after opened.volume → opened.shape ≡ coder_shape mode → IsStore (over new (volumes ++ Some opened ∷ []))
  made_store opened n coder =
      subst (λ (t : State). IsStore (over t (volumes ++ Some opened ∷ []))) (sym n.tables)
      (store_more tables (Some (record { mode = mode; last = 0; homes = n.disks })) volumes (Some opened) sound
      (record { number = n.made.number; disks_are = ap (λ s. s.disks) n.made.shape; mode = ap (λ s. s.mode) n.made.shape; coder = coder }) (some_disks tables mode n.disks n.given))

  pub made_stands : (opened : OpenedOver S E) → IsNext shelf_seen seen mode tables new before after opened.volume → opened.shape ≡ coder_shape mode → IsOver shelf_seen (over tables volumes) before
      → StandsOver shelf_seen (over new (volumes ++ Some opened ∷ [])) after
  made_stands opened n coder shelves =
      let number : next_number tables ≡ length volumes + 1 = ap (λ (k : ℕ). k + 1) (sym long) in
      let disks : opened.volume.world.shape.disks ≡ length tables.disks = ap (λ s. s.disks) n.made.shape in
      let out = subst (λ (v : ℕ). AreOut v 0 (length tables.disks + 1) after) number n.made.out in
      let others = subst (λ (v : ℕ). OthersStay v 0 (length tables.disks + 1) before after) number n.made.others in
      record {
        is = made_store opened n coder;
        shelves = over_more shelf_seen (over tables volumes) (over new (volumes ++ Some opened ∷ [])) (Some opened) before after (length tables.disks + 1) refl others
            (subst (λ (k : ℕ). AreOut (length volumes + 1) 0 (k + 1) after) (sym disks) out) shelves;
      }

-- ---- numbers

pub long_more : {X : Type 0} (xs ys : List X) (x : X) → ys ≡ xs ++ x ∷ [] → length ys ≡ length xs + 1
long_more xs ys x e = ap length e ∙ length-append xs (x ∷ [])

few_of : (count : ℕ) (b : Bool) (rest : List (Bool × AdminFault)) → nat_lt 63 count ≡ b → first_fault ((b, faults.LimitVolumes) ∷ rest) ≡ None → count ≤ 63
few_of count true rest e h = absurd (cc h)
few_of count false rest e h = ltb-false 63 count e

pub few_volumes : (tables : State) (mode : Mode) → new_volume_fault tables mode ≡ None → length tables.volumes ≤ 63
few_volumes tables mode h = few_of (length tables.volumes) (nat_lt 63 (length tables.volumes)) ((nat_lt (free_count tables.disks) (total_count mode), faults.FewDisks (free_count tables.disks) (total_count mode)) ∷ []) refl h

pub made_there : (tables new : State) (mode : Mode) (disks : List ℕ) (vid : ℕ) → new ≡ with_volume tables mode disks → vid ≡ length tables.volumes + 1 → is_some (volume_at new.volumes vid) ≡ true
made_there tables new mode disks vid is number =
    let place : vid - 1 ≡ length tables.volumes = omega (arith, number) in
    let at : slice_get new.volumes (vid - 1) ≡ Some (Some (record { mode = mode; last = 0; homes = disks })) =
    ap (λ (t : State). slice_get t.volumes (vid - 1)) is ∙ ap (slice_get (tables.volumes ++ Some (record { mode = mode; last = 0; homes = disks }) ∷ [])) place ∙ get_last tables.volumes _ in
    ap is_some (volume_stands new.volumes vid _ (λ zero_. omega (arith, zero_, number)) at)

pub made_breaks : {S E : Type 0} (shelf_seen : S → ShelfView E) (seen : E → FileView) (tables new : State) (volumes slots : List (Option (OpenedOver S E))) (opened : OpenedOver S E) (vid : ℕ) (final : StoreOver S E) (result : Result Reply StepFault)
    → slots ≡ volumes ++ Some opened ∷ [] → vid ≡ length tables.volumes + 1 → Played shelf_seen seen (breaks_in new (vid - 1) (bad_disks 1 new.disks) (replies.Volume vid)) (over new slots) final result
    → Played shelf_seen seen (breaks_in new (length tables.volumes) (bad_disks 1 new.disks) (replies.Volume (next_number tables))) (over new (volumes ++ Some opened ∷ [])) final result
made_breaks shelf_seen seen tables new volumes slots opened vid final result same number p =
    let place : vid - 1 ≡ length tables.volumes = omega (arith, number) in
    subst (λ (n : ℕ). Played shelf_seen seen (breaks_in new (length tables.volumes) (bad_disks 1 new.disks) (replies.Volume n)) (over new (volumes ++ Some opened ∷ [])) final result) number
    (subst (λ (q : ℕ). Played shelf_seen seen (breaks_in new q (bad_disks 1 new.disks) (replies.Volume vid)) (over new (volumes ++ Some opened ∷ [])) final result) place
    (subst (λ vs. Played shelf_seen seen (breaks_in new (vid - 1) (bad_disks 1 new.disks) (replies.Volume vid)) (over new vs) final result) same p))
