-- What the calls make of a shelf in memory as a shelf.
use Rattle.std.proofs.Common.{◌≡◌, inl, ◌↔◌, ◌==◌, ◌&&◌, ◌≤◌, ◌^◌, ℕ, true, false, List, [], ◌∷◌, length, Option, Some, None, is_some, Result, Ok, Err, OnOk, OnErr, IfOk, IfSome, IsErrOf, refl, sym, ap, subst, ◌∙◌, arith}
use Rattle.std.specs.Prelude.{Contains}
use Rattle.std.specs.Global.{Vec}
use Rattle.std.proofs.lemmas.Bool.{and_parts, eqb-true}
use Rattle.std.specs.List.Sorted.{IsStrictlyIncreasing}
use Rattle.std.specs.Map.{keys_of}
use Rattle.std.specs.Ordering.{nat_cmp, eq_by_cmp}
use Rattle.std.proofs.lemmas.Grind.{common_steps}
use Rattle.std.proofs.lemmas.Cmp.{eq_by_cmp_equiv, nat_cmp_total}
use Rattle.std.proofs.lemmas.Map.Views.{Contains-keys_from_lookup, IsSome-lookup_from_Contains}
use Rattle.disk_base.specs.Faults.{Plan, unused, unused_shared, added, part_of, one_more, fails_next, after_call, is_quiet}
use Rattle.disk_base.specs.Disk.{IsWithin, LeavesExactly}
use Rattle.disk_base.specs.Images.{FileState, MayLeave, content_of, empty_file, view_of}
use Rattle.disk_base.specs.Places.{is_there, place_of, is_lent, IfKept}
use Rattle.disk_base.specs.Shelves.{IsNoneOrEmpty, AllStay, OthersStay, LeavesPresent, ShelfCall, Lists, IsLent, Opens, Makes, Removes, TakesBack}
use Rattle.disk_base.specs.Racks.{ShelfState, Slots, slot_at, shelf_view, Sets, IsReopened, NamesCounts, OpenCounts, MakeCounts, RemoveCounts}
use Rattle.disk_base.specs.declared.fault.ShelfFault.{ShelfFault}
use Rattle.disk_base.specs.declared.fault.ShelfFault.TheVariants.{Exists, Absent, Failed, Memory}
use Rattle.disk_base.proofs.SlotLaws.{keeps, slot_there, there_at}
use Rattle.disk_base.proofs.Torn.{only_bytes}

-- ---- counts

pub quiet_fails : (plan : Plan) → fails_next plan ≡ true → is_quiet (after_call true plan) ≡ is_quiet plan
quiet_fails plan fails = grind (arith, common_steps)

module _ {T : Type 0} (result : Result T ShelfFault) (old new : ShelfState) where
  counted : (IsErrOf result Failed → ⊥) → new.plan ≡ after_call false old.plan → ShelfCall (shelf_view view_of old) (shelf_view view_of new) result
  counted ne plan =
      let faults : new.plan.faults ≡ old.plan.faults = ap (λ (p : Plan). p.faults) plan in
      record {
        never_falls = omega (arith, faults);
        failed = λ is. absurd (ne is);
        others = λ _. faults;
        told = refl;
        quiet = ap is_quiet plan;
      }

  failed : IsErrOf result Failed → fails_next old.plan ≡ true → new.plan ≡ after_call true old.plan → old.plan.faults ≤ new.plan.faults → ShelfCall (shelf_view view_of old) (shelf_view view_of new) result
  failed is fails plan never_falls =
      let faults : new.plan.faults ≡ one_more old.plan.faults = ap (λ (p : Plan). p.faults) plan in
      record {
        never_falls = never_falls;
        failed = λ _. omega (arith, faults);
        others = λ ne. absurd (ne is);
        told = refl;
        quiet = ap is_quiet plan ∙ quiet_fails old.plan fails;
      }

  unchanged : (IsErrOf result Failed → ⊥) → new ≡ old → ShelfCall (shelf_view view_of old) (shelf_view view_of new) result
  unchanged ne same =
      let faults : new.plan.faults ≡ old.plan.faults = ap (λ (s : ShelfState). s.plan.faults) same in
      record {
        never_falls = omega (arith, faults);
        failed = λ is. absurd (ne is);
        others = λ _. faults;
        told = refl;
        quiet = ap (λ (s : ShelfState). is_quiet s.plan) same;
      }

pub names_call : {T : Type 0} (result : Result T ShelfFault) (old new : ShelfState) → NamesCounts result old new → old.plan.faults ≤ new.plan.faults → ShelfCall (shelf_view view_of old) (shelf_view view_of new) result
names_call (Ok x) old new counts never_falls = counted (Ok x) old new (λ is. cc is) counts.1
names_call (Err Exists) old new counts never_falls = absurd counts
names_call (Err Absent) old new counts never_falls = absurd counts
names_call (Err Failed) old new counts never_falls = failed (Err Failed) old new refl counts.0 counts.1 never_falls
names_call (Err Memory) old new counts never_falls = unchanged (Err Memory) old new (λ is. cc is) counts

pub open_call : {T : Type 0} (result : Result T ShelfFault) (old new : ShelfState) → OpenCounts result old new → old.plan.faults ≤ new.plan.faults → ShelfCall (shelf_view view_of old) (shelf_view view_of new) result
open_call (Ok x) old new counts never_falls = counted (Ok x) old new (λ is. cc is) counts.1
open_call (Err Exists) old new counts never_falls = absurd counts
open_call (Err Absent) old new counts never_falls = counted (Err Absent) old new (λ is. cc is) counts.0
open_call (Err Failed) old new counts never_falls = failed (Err Failed) old new refl counts.0 counts.1 never_falls
open_call (Err Memory) old new counts never_falls = unchanged (Err Memory) old new (λ is. cc is) counts

pub make_call : {T : Type 0} (result : Result T ShelfFault) (old new : ShelfState) → MakeCounts result old new → old.plan.faults ≤ new.plan.faults → ShelfCall (shelf_view view_of old) (shelf_view view_of new) result
make_call (Ok x) old new counts never_falls = counted (Ok x) old new (λ is. cc is) counts.1
make_call (Err Exists) old new counts never_falls = counted (Err Exists) old new (λ is. cc is) counts.0
make_call (Err Absent) old new counts never_falls = absurd counts
make_call (Err Failed) old new counts never_falls = failed (Err Failed) old new refl counts.0 counts.1 never_falls
make_call (Err Memory) old new counts never_falls = unchanged (Err Memory) old new (λ is. cc is) counts

pub remove_call : {T : Type 0} (result : Result T ShelfFault) (old new : ShelfState) → RemoveCounts result old new → old.plan.faults ≤ new.plan.faults → ShelfCall (shelf_view view_of old) (shelf_view view_of new) result
remove_call (Ok x) old new counts never_falls = counted (Ok x) old new (λ is. cc is) counts.1
remove_call (Err Exists) old new counts never_falls = absurd counts
remove_call (Err Absent) old new counts never_falls = counted (Err Absent) old new (λ is. cc is) counts.0
remove_call (Err Failed) old new counts never_falls = failed (Err Failed) old new refl counts.0 counts.1 never_falls
remove_call (Err Memory) old new counts never_falls = absurd counts

-- ---- names

module _ (old new : ShelfState) where
  pub stay : new.slots ≡ old.slots → AllStay (shelf_view view_of old) (shelf_view view_of new)
  stay same = record {
    out = λ name. ap (λ (s : Slots). is_lent (slot_at s name)) same;
    places = λ name. keeps (place_of (slot_at old.slots name)) (place_of (slot_at new.slots name)) (ap (λ (s : Slots). place_of (slot_at s name)) same);
    leaves = λ name x left. subst (λ (s : Slots). LeavesPresent view_of (place_of (slot_at s name)) x) same left;
  }

  others : (name : ℕ) (slot : Option (Option FileState)) → Sets name slot old.slots new.slots → OthersStay name (shelf_view view_of old) (shelf_view view_of new)
  others name slot sets = record {
    out = λ n ne. ap is_lent (sets.others n ne);
    places = λ n ne. keeps (place_of (slot_at old.slots n)) (place_of (slot_at new.slots n)) (ap place_of (sets.others n ne));
    leaves = λ n x ne left. subst (λ (s : Option (Option FileState)). LeavesPresent view_of (place_of s) x) (sets.others n ne) left;
  }

  others_stay : (name : ℕ) → new.slots ≡ old.slots → OthersStay name (shelf_view view_of old) (shelf_view view_of new)
  others_stay name same = others name (slot_at old.slots name) (record {
    here = ap (λ (s : Slots). slot_at s name) same;
    others = λ n ne. ap (λ (s : Slots). slot_at s n) same;
  })

  lent : (name : ℕ) (file : FileState) → Sets name (Some None) old.slots new.slots → file.plan.faults ≡ 0 → (is_quiet old.plan ≡ true → is_quiet file.plan ≡ true) → IsLent view_of name (shelf_view view_of old) (shelf_view view_of new) file
  lent name file sets no_fault quiet = record {
    out = ap is_lent sets.here;
    away = ap place_of sets.here;
    others = others name (Some None) sets;
    no_fault = no_fault;
    quiet = quiet;
  }

listed : (slots : Slots) (names : List ℕ) → names ≡ keys_of slots → (name : ℕ) → (Contains names name ↔ (is_some (slot_at slots name) ≡ true))
listed slots names is name = (
  λ has. IsSome-lookup_from_Contains {eq = eq_by_cmp nat_cmp} (eq_by_cmp_equiv nat_cmp_total) name slots (subst (λ (l : List ℕ). Contains l name) is has),
  λ some. subst (λ (l : List ℕ). Contains l name) (sym is) (Contains-keys_from_lookup {eq = eq_by_cmp nat_cmp} same name slots some),
)
  where
    same : (x y : ℕ) → eq_by_cmp nat_cmp x y ≡ true → x ≡ y
    same x y is = grind (arith, common_steps)

pub lists : (result : Result (Vec ℕ) ShelfFault) (old new : ShelfState) → NamesCounts result old new → IfOk result (λ names. names.items ≡ keys_of old.slots) → IfOk result (λ names. IsStrictlyIncreasing names.items) → new.slots ≡ old.slots
    → Lists (shelf_view view_of old) (shelf_view view_of new) result
lists (Ok names) old new counts is ascend same = record {
  ascend = ascend;
  exact = λ name. there_at (slot_at old.slots name) (Contains names.items name) (listed old.slots names.items is name);
  known = λ name has. slot_there (slot_at new.slots name) (subst (λ (s : Slots). is_some (slot_at s name) ≡ true) (sym same) ((listed old.slots names.items is name).0 has));
  stay = stay old new same;
}
lists (Err Exists) old new counts is ascend same = absurd counts
lists (Err Absent) old new counts is ascend same = absurd counts
lists (Err Failed) old new counts is ascend same = stay old new same
lists (Err Memory) old new counts is ascend same = stay old new same

-- ---- files that are handed out

no_call_fails : (size part : ℕ) (fails : List ℕ) (faults : ℕ) → ((length fails == 0) && (faults == 0)) ≡ true → is_quiet (unused (part_of size part fails)) ≡ true
no_call_fails size part [] faults quiet = refl
no_call_fails size part (x ∷ xs) faults quiet = let none : length (x ∷ xs) ≡ 0 = eqb-true (length (x ∷ xs)) 0 (and_parts (length (x ∷ xs) == 0) (faults == 0) quiet).0 in absurd (omega (arith, none))

pub no_call_fails_shared : (size part : ℕ) (fails : List ℕ) (faults : ℕ) → ((length fails == 0) && (faults == 0)) ≡ true → is_quiet (unused_shared (part_of size part fails)) ≡ true
no_call_fails_shared size part fails faults quiet = no_call_fails size part fails faults quiet

pub makes : (result : Result FileState ShelfFault) (old new : ShelfState) (name number : ℕ) → MakeCounts result old new → (IsErrOf result Exists ↔ (is_some (slot_at old.slots name) ≡ true)) → IfOk result (λ file. file ≡ empty_file (part_of (2 ^ 32) number old.plan.fails) None)
    → OnOk result (Sets name (Some None) old.slots new.slots) → OnErr result (new.slots ≡ old.slots) → Makes view_of name (shelf_view view_of old) (shelf_view view_of new) result
makes (Ok file) old new name number counts exists is sets same = record {
  lent = lent old new name file sets (ap (λ (f : FileState). f.plan.faults) is) (λ quiet. ap (λ (f : FileState). is_quiet f.plan) is ∙ no_call_fails (2 ^ 32) number old.plan.fails old.plan.faults quiet);
  empty = λ told. ap content_of is;
  shows = subst (λ (f : FileState). IfSome (content_of f) (λ bytes. bytes ≡ [])) (sym is) refl;
  settled = λ told. subst (λ (f : FileState). LeavesExactly [] (MayLeave f)) (sym is) (only_bytes []);
}
makes (Err Exists) old new name number counts exists is sets same = record {
  known = slot_there (slot_at new.slots name) (subst (λ (s : Slots). is_some (slot_at s name) ≡ true) (sym same) (exists.0 refl));
  stay = stay old new same;
}
makes (Err Absent) old new name number counts exists is sets same = absurd counts
makes (Err Failed) old new name number counts exists is sets same = made_nothing (slot_at old.slots name) refl
  where
    here : slot_at new.slots name ≡ slot_at old.slots name
    here = ap (λ (s : Slots). slot_at s name) same

    made_nothing : (slot : Option (Option FileState)) → slot_at old.slots name ≡ slot → Makes view_of name (shelf_view view_of old) (shelf_view view_of new) (Err Failed)
    made_nothing None at = record {
      out = ap is_lent here;
      empty = λ told. subst (λ (s : Option (Option FileState)). IsNoneOrEmpty view_of (place_of s)) (sym (here ∙ at)) tt;
      leaves = λ told x left. inl (subst (λ (s : Option (Option FileState)). LeavesPresent view_of (place_of s) x) here left);
      others = others_stay old new name same;
    }
    made_nothing (Some was) at = absurd (cc (exists.1 (ap is_some at)))
makes (Err Memory) old new name number counts exists is sets same = stay old new same

-- a file that was kept, and is handed out with its calls counted anew
module _ (fails : List ℕ) where
  reopened : {A : Type 0} (read : FileState → A) → ((f : FileState) → read (record f { plan = unused fails }) ≡ read f) → (slot : Option (Option FileState)) (file : FileState) → IsReopened fails slot file → IfKept (place_of slot) (λ was. read file ≡ read was)
  reopened read same None file is = tt
  reopened read same (Some None) file is = tt
  reopened read same (Some (Some was)) file is = ap read is ∙ same was

  reopened_images : (slot : Option (Option FileState)) (file : FileState) → IsReopened fails slot file → IfKept (place_of slot) (λ was. IsWithin (MayLeave file) (MayLeave was))
  reopened_images None file is = tt
  reopened_images (Some None) file is = tt
  reopened_images (Some (Some was)) file is = λ c left. subst (λ (f : FileState). MayLeave f c) is left

  reopened_leaves : (slot : Option (Option FileState)) (file : FileState) (bytes : List ℕ) → (slot ≡ None → ⊥) → IsReopened fails slot file → MayLeave file bytes → LeavesPresent view_of (place_of slot) (Some bytes)
  reopened_leaves None file bytes there is left = absurd (there refl)
  reopened_leaves (Some None) file bytes there is left = tt
  reopened_leaves (Some (Some was)) file bytes there is left = subst (λ (f : FileState). MayLeave f bytes) is left

  reopened_plan : (slot : Option (Option FileState)) (file : FileState) → (slot ≡ None → ⊥) → is_lent slot ≡ false → IsReopened fails slot file → file.plan ≡ unused fails
  reopened_plan None file there back is = absurd (there refl)
  reopened_plan (Some None) file there back is = cc back
  reopened_plan (Some (Some was)) file there back is = ap (λ (f : FileState). f.plan) is

pub opens : (result : Result FileState ShelfFault) (old new : ShelfState) (name number : ℕ) → is_lent (slot_at old.slots name) ≡ false → OpenCounts result old new → (IsErrOf result Absent ↔ (slot_at old.slots name ≡ None)) → IfOk result (IsReopened (part_of (2 ^ 32) number old.plan.fails) (slot_at old.slots name))
    → OnOk result (Sets name (Some None) old.slots new.slots) → OnErr result (new.slots ≡ old.slots) → Opens view_of name (shelf_view view_of old) (shelf_view view_of new) result
opens (Ok file) old new name number back counts absent is sets same =
    let fails = part_of (2 ^ 32) number old.plan.fails in
    let there : slot_at old.slots name ≡ None → ⊥ = λ none. absurd (cc (absent.1 none)) in
    let plan : file.plan ≡ unused fails = reopened_plan fails (slot_at old.slots name) file there back is in
    record {
      lent = lent old new name file sets (ap (λ (p : Plan). p.faults) plan) (λ quiet. ap is_quiet plan ∙ no_call_fails (2 ^ 32) number old.plan.fails old.plan.faults quiet);
      content = reopened fails content_of (λ f. refl) (slot_at old.slots name) file is;
      images = reopened_images fails (slot_at old.slots name) file is;
      leaves = λ told bytes left. reopened_leaves fails (slot_at old.slots name) file bytes there is left;
    }
opens (Err Exists) old new name number back counts absent is sets same = absurd counts
opens (Err Absent) old new name number back counts absent is sets same = stay old new same
opens (Err Failed) old new name number back counts absent is sets same = stay old new same
opens (Err Memory) old new name number back counts absent is sets same = stay old new same

-- ---- files that are removed or taken back

pub removes : {T : Type 0} (result : Result T ShelfFault) (old new : ShelfState) (name : ℕ) → is_lent (slot_at old.slots name) ≡ false → RemoveCounts result old new
    → OnOk result (Sets name None old.slots new.slots) → OnErr result (new.slots ≡ old.slots) → Removes name (shelf_view view_of old) (shelf_view view_of new) result
removes (Ok x) old new name back counts sets same = record {
  out = ap is_lent sets.here;
  gone = subst (λ (s : Option (Option FileState)). IfSome (is_there (place_of s)) (λ there. there ≡ false)) (sym sets.here) refl;
  leaves = λ told x left. subst (λ (s : Option (Option FileState)). LeavesPresent view_of (place_of s) x) sets.here left;
  others = others old new name None sets;
}
removes (Err Exists) old new name back counts sets same = absurd counts
removes (Err Absent) old new name back counts sets same = stay old new same
removes (Err Failed) old new name back counts sets same = record {
  out = ap (λ (s : Slots). is_lent (slot_at s name)) same ∙ back;
  place = λ told. inl (ap (λ (s : Slots). place_of (slot_at s name)) same);
  leaves = λ told x left. inl (subst (λ (s : Slots). LeavesPresent view_of (place_of (slot_at s name)) x) same left);
  others = others_stay old new name same;
}
removes (Err Memory) old new name back counts sets same = absurd counts

pub quiet_together : (old file new : Plan) → new ≡ record old { faults = added old.faults file.faults } → is_quiet old ≡ true → is_quiet file ≡ true → is_quiet new ≡ true
quiet_together old file new is quiet quiet_file = grind (arith, common_steps)

quiet_before : (old file new : Plan) → new ≡ record old { faults = added old.faults file.faults } → is_quiet new ≡ true → is_quiet old ≡ true
quiet_before old file new is quiet = grind (arith, common_steps)

pub takes_back : (old new : ShelfState) (name : ℕ) (file : FileState) → Sets name (Some (Some file)) old.slots new.slots → new.plan ≡ record old.plan { faults = added old.plan.faults file.plan.faults } → old.plan.faults ≤ new.plan.faults
    → TakesBack view_of name file (shelf_view view_of old) (shelf_view view_of new)
takes_back old new name file sets plan never_falls =
    let faults : new.plan.faults ≡ added old.plan.faults file.plan.faults = ap (λ (p : Plan). p.faults) plan in
    record {
      out = ap is_lent sets.here;
      kept = ap place_of sets.here;
      leaves = λ told x left. subst (λ (s : Option (Option FileState)). LeavesPresent view_of (place_of s) x) sets.here left;
      others = others old new name (Some (Some file)) sets;
      count = omega (arith, faults);
      never_falls = never_falls;
      told = refl;
      quiet = quiet_together old.plan file.plan new.plan plan;
      quiet_before = quiet_before old.plan file.plan new.plan plan;
    }
