-- What is known of a farm in folders meets what is promised of farms.
use Rattle.std.specs.Prelude.{ℕ, ◌≡◌, true, false, Bool, Option, None, Some, Result, Ok, Err, IfOk, IsErrOf, refl}
use Rattle.std.proofs.Common.{sym, ap, arith}
use Rattle.std.specs.Ordering.{nat_cmp, ordering_then, is_eq}
use Rattle.std.specs.declared.cmp.Ordering.{Ordering}
use Rattle.std.specs.declared.cmp.Ordering.TheVariants.{Less, Equal, Greater}
use Rattle.std.specs.BTreeMap.{BTreeMap, UpdatesBy, is_at}
use Rattle.std.proofs.lemmas.Grind.{common_steps}
use Rattle.disk_base.specs.Faults.{added}
use Rattle.disk_base.specs.Places.{is_lent}
use Rattle.disk_base.specs.Farms.{FarmCall, Roots, ShelvesStay, OtherShelvesStay, HasFilesOf, LendsShelf, TakesShelfBack}
use Rattle.disk_base.specs.FarmRacks.{place_cmp}
use Rattle.disk_base.specs.declared.fault.FarmFault.{FarmFault}
use Rattle.disk_base.specs.declared.fault.FarmFault.TheVariants.{NotEmpty, Failed, Memory}
use Rattle.dir_farm.specs.DirShelf.{ShelfNotes, shelf_view, Names}
use Rattle.dir_farm.specs.DirFarm.{Shelves, FarmNotes, shelf_at, place_of, farm_view, SetsShelf, CountsFarm, names_of, LendsNotes}
use Rattle.dir_farm.proofs.ShelfLaws.{same}

-- ---- one shelf of a map

both_equal : (r s : Ordering) → is_eq (ordering_then r s) ≡ true → (is_eq r ≡ true) × (is_eq s ≡ true)
both_equal Less s is = absurd (cc is)
both_equal Equal s is = (refl, is)
both_equal Greater s is = absurd (cc is)

same_number : (a b : ℕ) → is_eq (nat_cmp a b) ≡ true → a ≡ b
same_number a b is = grind (arith, common_steps)

elsewhere : (disk vid d v : ℕ) → (d ≡ disk → v ≡ vid → ⊥) → (b : Bool) → is_at (place_cmp (disk, vid)) (d, v) ≡ b → b ≡ false
elsewhere disk vid d v ne false is = refl
elsewhere disk vid d v ne true is =
    let both = both_equal (nat_cmp disk d) (nat_cmp vid v) is in
    absurd (ne (sym (same_number disk d both.0)) (sym (same_number vid v both.1)))

pub sets : (disk vid : ℕ) (state : Option (Option ShelfNotes)) (old new : BTreeMap (ℕ × ℕ) (Option ShelfNotes)) → UpdatesBy place_cmp (place_cmp (disk, vid)) old new state → SetsShelf disk vid state old.entries new.entries
sets disk vid state old new updates = record {
  here = updates.1;
  others = λ d v ne. updates.2 (d, v) (elsewhere disk vid d v ne (is_at (place_cmp (disk, vid)) (d, v)) refl);
}

-- ---- calls

pub call : {T : Type 0} (result : Result T FarmFault) (old new : FarmNotes) → CountsFarm result old.faults new.faults → FarmCall (farm_view old) (farm_view new) result
call (Ok x) old new counts = record { never_falls = omega (arith, counts); failed = λ is. absurd (cc is); others = λ _. counts; told = refl; quiet = refl }
call (Err NotEmpty) old new counts = record { never_falls = omega (arith, counts); failed = λ is. absurd (cc is); others = λ _. counts; told = refl; quiet = refl }
call (Err Failed) old new counts = record { never_falls = omega (arith, counts); failed = λ is. omega (arith, counts); others = λ ne. absurd (ne refl); told = refl; quiet = refl }
call (Err Memory) old new counts = record { never_falls = omega (arith, counts); failed = λ is. absurd (cc is); others = λ _. counts; told = refl; quiet = refl }

module _ (old new : FarmNotes) where
  stay : new.shelves ≡ old.shelves → ShelvesStay (farm_view old) (farm_view new)
  stay is = record {
    out = λ disk vid. ap (λ (shelves : Shelves). is_lent (shelf_at shelves disk vid)) is;
    places = λ disk vid. ap (λ (shelves : Shelves). place_of (shelf_at shelves disk vid)) is;
  }

  others : (disk vid : ℕ) (state : Option (Option ShelfNotes)) → SetsShelf disk vid state old.shelves new.shelves → OtherShelvesStay disk vid (farm_view old) (farm_view new)
  others disk vid state does = record {
    out = λ d v ne. ap is_lent (does.others d v ne);
    places = λ d v ne. ap place_of (does.others d v ne);
  }

if_ok : (result : Result Bool FarmFault) → IfOk result (λ _. Unit {0})
if_ok (Ok x) = tt
if_ok (Err x) = tt

pub lent_files : (state : Option (Option ShelfNotes)) (shelf : ShelfNotes) → is_lent state ≡ false → shelf.names ≡ names_of state → HasFilesOf shelf_view (place_of state) (shelf_view shelf)
lent_files None shelf back is = λ name. ap (λ (names : Names). (shelf_view (record { names = names; faults = 0 })).is_out name) is
lent_files (Some None) shelf back is = absurd (cc back)
lent_files (Some (Some was)) shelf back is = same was shelf is

pub lends : (result : Result ShelfNotes FarmFault) (old new : FarmNotes) (disk vid : ℕ) → is_lent (shelf_at old.shelves disk vid) ≡ false → LendsNotes disk vid old.shelves new.shelves result
    → LendsShelf shelf_view disk vid (farm_view old) (farm_view new) result
lends (Ok shelf) old new disk vid back does = record {
  out = ap is_lent does.1.here;
  away = ap place_of does.1.here;
  others = others old new disk vid (Some None) does.1;
  files = lent_files (shelf_at old.shelves disk vid) shelf back (ap (λ (s : ShelfNotes). s.names) does.0);
  no_fault = ap (λ (s : ShelfNotes). s.faults) does.0;
  told = refl;
  quiet = λ quiet. absurd (cc quiet);
}
lends (Err NotEmpty) old new disk vid back does = absurd does
lends (Err Failed) old new disk vid back does = stay old new does
lends (Err Memory) old new disk vid back does = stay old new does

pub roots : (result : Result Bool FarmFault) (old new : FarmNotes) → new.shelves ≡ old.shelves → (IsErrOf result NotEmpty → new.found_item ≡ true) → Roots shelf_view (farm_view old) (farm_view new) result
roots result old new is item = record { stay = stay old new is; admin = λ told. absurd (cc told); not_empty = λ told. absurd (cc told); item = item }

pub takes_back : (old new : FarmNotes) (disk vid : ℕ) (shelf : ShelfNotes) → SetsShelf disk vid (Some (Some shelf)) old.shelves new.shelves → new.faults ≡ added old.faults shelf.faults
    → TakesShelfBack shelf_view disk vid shelf (farm_view old) (farm_view new)
takes_back old new disk vid shelf does count = record {
  out = ap is_lent does.here;
  kept = ap place_of does.here;
  others = others old new disk vid (Some (Some shelf)) does;
  count = omega (arith, count);
  never_falls = omega (arith, count);
  told = refl;
  quiet = λ quiet. absurd (cc quiet);
}
