-- What the calls make of a farm in memory as a farm.
use Rattle.std.proofs.Common.{◌≡◌, ◌↔◌, ◌&&◌, ◌≤◌, ◌^◌, not, ℕ, Bool, true, false, List, Option, Some, None, IsTrue, Result, Ok, Err, OnOk, OnErr, IfOk, IsErrOf, refl, sym, ap, subst, ◌∙◌, arith}
use Rattle.std.specs.List.Sorted.{IsStrictlySortedBy}
use Rattle.std.specs.Map.{keys_of}
use Rattle.disk_base.specs.Faults.{Plan, unused_shared, added, part_of, one_more, fails_next, after_call, is_quiet}
use Rattle.disk_base.specs.Images.{view_of}
use Rattle.disk_base.specs.Places.{place_of, is_lent}
use Rattle.disk_base.specs.Racks.{ShelfState, shelf_view}
use Rattle.disk_base.specs.Farms.{HasFile, ShelvesStay, OtherShelvesStay, FarmCall, Roots, HasNoFile, HasFilesOf, LendsShelf, TakesShelfBack}
use Rattle.disk_base.specs.FarmRacks.{FarmState, ShelfSlots, shelf_at, SetsShelf, place_cmp, has_file, admin_in, farm_view, IsLentAnew, RootCounts, ShelfCounts}
use Rattle.disk_base.specs.declared.fault.FarmFault.{FarmFault}
use Rattle.disk_base.specs.declared.fault.FarmFault.TheVariants.{NotEmpty, Failed, Memory}
use Rattle.disk_base.proofs.PlaceLaws.{admin_iff, file_iff}
use Rattle.disk_base.proofs.ShelfLaws.{stay, no_call_fails_shared, quiet_fails, quiet_together}

-- ---- counts

module _ {T : Type 0} (result : Result T FarmFault) (old new : FarmState) where
  counted : (IsErrOf result Failed → ⊥) → new.plan ≡ after_call false old.plan → FarmCall (farm_view old) (farm_view new) result
  counted ne plan =
      let faults : new.plan.faults ≡ old.plan.faults = ap (λ (p : Plan). p.faults) plan in
      record {
        never_falls = omega (arith, faults);
        failed = λ is. absurd (ne is);
        others = λ _. faults;
        told = refl;
        quiet = ap is_quiet plan;
      }

  failed : IsErrOf result Failed → fails_next old.plan ≡ true → new.plan ≡ after_call true old.plan → old.plan.faults ≤ new.plan.faults → FarmCall (farm_view old) (farm_view new) result
  failed is fails plan never_falls =
      let faults : new.plan.faults ≡ one_more old.plan.faults = ap (λ (p : Plan). p.faults) plan in
      record {
        never_falls = never_falls;
        failed = λ _. omega (arith, faults);
        others = λ ne. absurd (ne is);
        told = refl;
        quiet = ap is_quiet plan ∙ quiet_fails old.plan fails;
      }

  unchanged : (IsErrOf result Failed → ⊥) → new ≡ old → FarmCall (farm_view old) (farm_view new) result
  unchanged ne same =
      let faults : new.plan.faults ≡ old.plan.faults = ap (λ (f : FarmState). f.plan.faults) same in
      record {
        never_falls = omega (arith, faults);
        failed = λ is. absurd (ne is);
        others = λ _. faults;
        told = refl;
        quiet = ap (λ (f : FarmState). is_quiet f.plan) same;
      }

pub root_call : {T : Type 0} (result : Result T FarmFault) (old new : FarmState) → RootCounts result old new → old.plan.faults ≤ new.plan.faults → FarmCall (farm_view old) (farm_view new) result
root_call (Ok x) old new counts never_falls = counted (Ok x) old new (λ is. cc is) counts.1
root_call (Err NotEmpty) old new counts never_falls = counted (Err NotEmpty) old new (λ is. cc is) counts.0
root_call (Err Failed) old new counts never_falls = failed (Err Failed) old new refl counts.0 counts.1 never_falls
root_call (Err Memory) old new counts never_falls = absurd counts

pub shelf_call : {T : Type 0} (result : Result T FarmFault) (old new : FarmState) → ShelfCounts result old new → old.plan.faults ≤ new.plan.faults → FarmCall (farm_view old) (farm_view new) result
shelf_call (Ok x) old new counts never_falls = counted (Ok x) old new (λ is. cc is) counts.1
shelf_call (Err NotEmpty) old new counts never_falls = absurd counts
shelf_call (Err Failed) old new counts never_falls = failed (Err Failed) old new refl counts.0 counts.1 never_falls
shelf_call (Err Memory) old new counts never_falls = unchanged (Err Memory) old new (λ is. cc is) counts

-- ---- shelves

module _ (old new : FarmState) where
  shelves_stay : new.slots ≡ old.slots → ShelvesStay (farm_view old) (farm_view new)
  shelves_stay same = record {
    out = λ disk vid. ap (λ (s : ShelfSlots). is_lent (shelf_at s disk vid)) same;
    places = λ disk vid. ap (λ (s : ShelfSlots). place_of (shelf_at s disk vid)) same;
  }

  others : (disk vid : ℕ) (slot : Option (Option ShelfState)) → SetsShelf disk vid slot old.slots new.slots → OtherShelvesStay disk vid (farm_view old) (farm_view new)
  others disk vid slot sets = record {
    out = λ d v ne. ap is_lent (sets.others d v ne);
    places = λ d v ne. ap place_of (sets.others d v ne);
  }

-- what is told of a shelf that is lent
module _ (fails : List ℕ) where
  lent_files : (slot : Option (Option ShelfState)) (shelf : ShelfState) → is_lent slot ≡ false → IsLentAnew fails slot shelf → HasFilesOf (shelf_view view_of) (place_of slot) (shelf_view view_of shelf)
  lent_files None shelf back is = subst (λ (s : ShelfState). HasNoFile (shelf_view view_of s)) (sym is) (record { out = λ name. refl; absent = λ name. refl; leaves = λ name x left. left })
  lent_files (Some None) shelf back is = cc back
  lent_files (Some (Some was)) shelf back is = stay was shelf (ap (λ (s : ShelfState). s.slots) is)

  lent_plan : (slot : Option (Option ShelfState)) (shelf : ShelfState) → is_lent slot ≡ false → IsLentAnew fails slot shelf → shelf.plan ≡ unused_shared fails
  lent_plan None shelf back is = ap (λ (s : ShelfState). s.plan) is
  lent_plan (Some None) shelf back is = cc back
  lent_plan (Some (Some was)) shelf back is = ap (λ (s : ShelfState). s.plan) is

pub lends : (result : Result ShelfState FarmFault) (old new : FarmState) (disk vid number : ℕ) → is_lent (shelf_at old.slots disk vid) ≡ false → ShelfCounts result old new → IfOk result (IsLentAnew (part_of (2 ^ 48) number old.plan.fails) (shelf_at old.slots disk vid))
    → OnOk result (SetsShelf disk vid (Some None) old.slots new.slots) → OnErr result (new.slots ≡ old.slots) → LendsShelf (shelf_view view_of) disk vid (farm_view old) (farm_view new) result
lends (Ok shelf) old new disk vid number back counts is sets same =
    let fails = part_of (2 ^ 48) number old.plan.fails in
    let plan : shelf.plan ≡ unused_shared fails = lent_plan fails (shelf_at old.slots disk vid) shelf back is in
    record {
      out = ap is_lent sets.here;
      away = ap place_of sets.here;
      others = others old new disk vid (Some None) sets;
      files = lent_files fails (shelf_at old.slots disk vid) shelf back is;
      no_fault = ap (λ (p : Plan). p.faults) plan;
      told = refl;
      quiet = λ quiet. ap is_quiet plan ∙ no_call_fails_shared (2 ^ 48) number old.plan.fails old.plan.faults quiet;
    }
lends (Err NotEmpty) old new disk vid number back counts is sets same = absurd counts
lends (Err Failed) old new disk vid number back counts is sets same = shelves_stay old new same
lends (Err Memory) old new disk vid number back counts is sets same = shelves_stay old new same

pub takes_shelf_back : (old new : FarmState) (disk vid : ℕ) (shelf : ShelfState) → SetsShelf disk vid (Some (Some shelf)) old.slots new.slots → new.plan ≡ record old.plan { faults = added old.plan.faults shelf.plan.faults } → old.plan.faults ≤ new.plan.faults
    → TakesShelfBack (shelf_view view_of) disk vid shelf (farm_view old) (farm_view new)
takes_shelf_back old new disk vid shelf sets plan never_falls =
    let faults : new.plan.faults ≡ added old.plan.faults shelf.plan.faults = ap (λ (p : Plan). p.faults) plan in
    record {
      out = ap is_lent sets.here;
      kept = ap place_of sets.here;
      others = others old new disk vid (Some (Some shelf)) sets;
      count = omega (arith, faults);
      never_falls = never_falls;
      told = refl;
      quiet = quiet_together old.plan shelf.plan new.plan plan;
    }

-- ---- the root

refused_only : (filled admin : Bool) → (filled && not admin) ≡ true → (filled ≡ true) × (admin ≡ true → ⊥)
refused_only true true is = absurd (cc is)
refused_only true false is = (refl, λ is. cc is)
refused_only false admin is = absurd (cc is)

refused_where : (filled admin : Bool) → filled ≡ true → (admin ≡ true → ⊥) → (filled && not admin) ≡ true
refused_where true true is never = absurd (never refl)
refused_where true false is never = refl
refused_where false admin is never = is

pub roots : (result : Result Bool FarmFault) (old new : FarmState) → RootCounts result old new → IfOk result (λ there. there ≡ admin_in (shelf_at old.slots 0 0)) → (IsErrOf result NotEmpty ↔ ((has_file old.slots && not (admin_in (shelf_at old.slots 0 0))) ≡ true))
    → IsStrictlySortedBy place_cmp (keys_of old.slots) → new.slots ≡ old.slots → Roots (shelf_view view_of) (farm_view old) (farm_view new) result
roots result old new counts admin not_empty sorted same =
    let slot = shelf_at old.slots 0 0 in
    let has = admin_iff old.slots slot in
    let file = file_iff old.slots sorted in
    record {
      stay = shelves_stay old new same;
      admin = λ told back. answered result slot admin;
      not_empty = λ told back. (
        λ is. let parts = refused_only (has_file old.slots) (admin_in slot) (not_empty.0 is) in (file.0 parts.0, λ there. parts.1 (has.1 there)),
        λ both. not_empty.1 (refused_where (has_file old.slots) (admin_in slot) (file.1 both.0) (λ is. both.1 (has.0 is))),
      );
      item = λ is. ap has_file same ∙ (refused_only (has_file old.slots) (admin_in slot) (not_empty.0 is)).0;
    }
  where
    answered : (r : Result Bool FarmFault) (slot : Option (Option ShelfState)) → IfOk r (λ there. there ≡ admin_in slot) → IfOk r (λ there. IsTrue there ↔ HasFile (shelf_view view_of) (place_of slot) 1)
    answered (Ok there) slot is = (λ true_is. (admin_iff old.slots slot).0 (sym is ∙ true_is), λ has. is ∙ (admin_iff old.slots slot).1 has)
    answered (Err e) slot is = tt
