-- Shelves by disk and volume: what a change of one slot leaves, and which shelves have files.
use Rattle.std.proofs.Common.{◌≡◌, ◌↔◌, ◌==◌, not, ℕ, if◌then◌else◌, Bool, true, false, [], ◌∷◌, length, Option, Some, None, is_some, refl, sym, subst, arith}
use Rattle.std.specs.List.Sorted.{IsStrictlySortedBy}
use Rattle.std.specs.Map.{keys_of, values_of}
use Rattle.std.specs.Ordering.{nat_cmp, ordering_then, is_eq, eq_by_cmp}
use Rattle.std.specs.declared.cmp.Ordering.{Ordering}
use Rattle.std.specs.declared.cmp.Ordering.TheVariants.{Less, Equal, Greater}
use Rattle.std.specs.BTreeMap.{BTreeMap, UpdatesBy, is_at}
use Rattle.std.specs.Cmp.{IsTotalOrder}
use Rattle.std.proofs.lemmas.Grind.{common_steps}
use Rattle.std.proofs.lemmas.Cmp.{eq_by_cmp_equiv, nat_cmp_total, on_total, then_total}
use Rattle.std.proofs.lemmas.Map.Keys.{IsDistinct-from_sorted}
use Rattle.std.proofs.lemmas.Map.Views.{Contains-from_lookup, lookup-from_Contains}
use Rattle.std.proofs.lemmas.Map.Made.{Contains-values_of, Contains-from_values_of}
use Rattle.std.proofs.lemmas.List.Folds.{Any-from_list_any, list_any-from_Any}
use Rattle.disk_base.specs.Places.{Place, place_of}
use Rattle.disk_base.specs.Images.{view_of}
use Rattle.disk_base.specs.Racks.{ShelfState, Slots, slot_at, shelf_view}
use Rattle.disk_base.specs.Farms.{HasFile, RootHasFile}
use Rattle.disk_base.specs.FarmRacks.{ShelfSlots, shelf_at, SetsShelf, place_cmp, is_filled, has_file, admin_in}
use Rattle.disk_base.proofs.SlotLaws.{slot_there, there_slot}

-- ---- disks and volumes

both_equal : (r s : Ordering) → is_eq (ordering_then r s) ≡ true → (is_eq r ≡ true) × (is_eq s ≡ true)
both_equal Less s is = absurd (cc is)
both_equal Equal s is = (refl, is)
both_equal Greater s is = absurd (cc is)

number_same : (a b : ℕ) → is_eq (nat_cmp a b) ≡ true → a ≡ b
number_same a b is = grind (arith, common_steps)

pub place_same : (a b : ℕ × ℕ) → eq_by_cmp place_cmp a b ≡ true → a ≡ b
place_same a b is =
    let both = both_equal (nat_cmp a.0 b.0) (nat_cmp a.1 b.1) is in
    (λ j. (number_same a.0 b.0 both.0 j, number_same a.1 b.1 both.1 j))

apart : (disk vid d v : ℕ) → (d ≡ disk → v ≡ vid → ⊥) → (b : Bool) → is_at (place_cmp (disk, vid)) (d, v) ≡ b → b ≡ false
apart disk vid d v ne true is = let both = both_equal (nat_cmp disk d) (nat_cmp vid v) is in absurd (ne (sym (number_same disk d both.0)) (sym (number_same vid v both.1)))
apart disk vid d v ne false is = refl

pub sets_shelf : (disk vid : ℕ) (slot : Option (Option ShelfState)) (m n : BTreeMap (ℕ × ℕ) (Option ShelfState)) → UpdatesBy place_cmp (place_cmp (disk, vid)) m n slot → SetsShelf disk vid slot m.entries n.entries
sets_shelf disk vid slot m n updates = record {
  here = updates.1;
  others = λ d v ne. updates.2 (d, v) (apart disk vid d v ne (is_at (place_cmp (disk, vid)) (d, v)) refl);
}

place_total : IsTotalOrder place_cmp
place_total = then_total (on_total (λ (p : ℕ × ℕ). p.0) nat_cmp_total) (on_total (λ (p : ℕ × ℕ). p.1) nat_cmp_total)

-- ---- files

-- a shelf that has a slot has a name
first_name : (slots : Slots) → (length slots == 0) ≡ false → (name : ℕ) × (is_some (slot_at slots name) ≡ true)
first_name [] none = absurd (cc none)
first_name (e ∷ es) none = (e.0, found (is_eq (nat_cmp e.0 e.0)) (grind (arith, common_steps)))
  where
    found : (b : Bool) → b ≡ true → is_some (if b then Some e.1 else slot_at es e.0) ≡ true
    found true is = refl
    found false is = cc is

not_empty : (slots : Slots) (name : ℕ) → is_some (slot_at slots name) ≡ true → not (length slots == 0) ≡ true
not_empty [] name some = cc some
not_empty (e ∷ es) name some = grind (arith, common_steps)

module _ (slots : ShelfSlots) where
  abbrev place : ℕ → ℕ → Place ShelfState
  place disk vid = place_of (shelf_at slots disk vid)

  pub admin_iff : (slot : Option (Option ShelfState)) → (admin_in slot ≡ true) ↔ HasFile (shelf_view view_of) (place_of slot) 1
  admin_iff None = (λ is. cc is, λ has. absurd has)
  admin_iff (Some None) = (λ is. cc is, λ has. absurd has)
  admin_iff (Some (Some shelf)) = (λ is. slot_there (slot_at shelf.slots 1) is, λ has. there_slot (slot_at shelf.slots 1) has)

  filled_has : (disk vid : ℕ) (shelf : Option ShelfState) → shelf_at slots disk vid ≡ Some shelf → is_filled shelf ≡ true → RootHasFile (shelf_view view_of) place
  filled_has disk vid None at filled = absurd (cc filled)
  filled_has disk vid (Some shelf) at filled =
      let first = first_name shelf.slots (no_more (length shelf.slots == 0) filled) in
      (disk, vid, first.0, subst (λ (s : Option (Option ShelfState)). HasFile (shelf_view view_of) (place_of s) first.0) (sym at) (slot_there (slot_at shelf.slots first.0) first.1))
    where
      no_more : (b : Bool) → not b ≡ true → b ≡ false
      no_more true is = absurd (cc is)
      no_more false is = refl

  has_filled : (disk vid name : ℕ) (slot : Option (Option ShelfState)) → shelf_at slots disk vid ≡ slot → HasFile (shelf_view view_of) (place_of slot) name → has_file slots ≡ true
  has_filled disk vid name None at has = absurd has
  has_filled disk vid name (Some None) at has = absurd has
  has_filled disk vid name (Some (Some shelf)) at has =
      let entry = Contains-from_lookup {eq = eq_by_cmp place_cmp} place_same (disk, vid) (Some shelf) slots at in
      let value = Contains-values_of slots (disk, vid) (Some shelf) entry in
      list_any-from_Any is_filled (values_of slots) (value.0, Some shelf, value.1, value.2, not_empty shelf.slots name (there_slot (slot_at shelf.slots name) has))

  pub file_iff : IsStrictlySortedBy place_cmp (keys_of slots) → (has_file slots ≡ true) ↔ RootHasFile (shelf_view view_of) place
  file_iff sorted = (
    λ is.
        let some = Any-from_list_any is_filled (values_of slots) is in
        let entry = Contains-from_values_of slots some.1 (some.0, some.2, some.3) in
        let at = lookup-from_Contains {eq = eq_by_cmp place_cmp} (eq_by_cmp_equiv place_total) entry.0 some.1 slots (IsDistinct-from_sorted place_cmp (keys_of slots) sorted) entry.1 in
        filled_has entry.0.0 entry.0.1 some.1 at some.4,
    λ has. has_filled has.0 has.1 has.2 (shelf_at slots has.0 has.1) refl has.3,
  )
