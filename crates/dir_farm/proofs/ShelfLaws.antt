-- What is known of a shelf in a folder meets what is promised of shelves.
use Rattle.std.specs.Prelude.{ℕ, ◌≡◌, ◌↔◌, true, false, List, Contains, Option, None, Some, is_some, IfSome, IsTrue, Result, Ok, Err, IsErrOf, refl}
use Rattle.std.proofs.Common.{sym, ap, subst, arith}
use Rattle.std.specs.Global.{Vec}
use Rattle.std.specs.Map.{keys_of}
use Rattle.std.specs.Ordering.{nat_cmp, eq_by_cmp}
use Rattle.std.proofs.lemmas.Grind.{common_steps}
use Rattle.std.proofs.lemmas.Cmp.{eq_by_cmp_equiv, nat_cmp_total}
use Rattle.std.proofs.lemmas.Map.Views.{Contains-keys_from_lookup, IsSome-lookup_from_Contains}
use Rattle.disk_base.specs.Faults.{added}
use Rattle.disk_base.specs.Places.{Place, Unknown, Absent, Away, Kept, is_there, Keeps, IfKept}
use Rattle.disk_base.specs.Shelves.{AllStay, OthersStay, ShelfCall, Lists, IsLent, Opens, Makes, Removes, TakesBack}
use Rattle.disk_base.specs.declared.fault.ShelfFault.{ShelfFault}
use Rattle.disk_base.specs.declared.fault.ShelfFault.TheVariants as faults
use Rattle.dir_farm.specs.declared.dir_file.FileCounts.{FileCounts}
use Rattle.dir_farm.specs.declared.names.Known.{Known}
use Rattle.dir_farm.specs.declared.names.Known.TheVariants as known
use Rattle.dir_farm.specs.DirFile.{file_view}
use Rattle.dir_farm.specs.DirShelf.{Names, ShelfNotes, known_at, place_of, is_out, shelf_view, Sets, StaysAt, Stays, unused, CountsShelf, ListsNames, OpensName, MakesName, RemovesName}

-- ---- counts

pub call : {T : Type 0} (result : Result T ShelfFault) (old new : ShelfNotes) → CountsShelf result old.faults new.faults → ShelfCall (shelf_view old) (shelf_view new) result
call (Ok x) old new counts = record { never_falls = omega (arith, counts); failed = λ is. absurd (cc is); others = λ _. counts; told = refl; quiet = refl }
call (Err faults.Exists) old new counts = record { never_falls = omega (arith, counts); failed = λ is. absurd (cc is); others = λ _. counts; told = refl; quiet = refl }
call (Err faults.Absent) old new counts = record { never_falls = omega (arith, counts); failed = λ is. absurd (cc is); others = λ _. counts; told = refl; quiet = refl }
call (Err faults.Failed) old new counts = record { never_falls = omega (arith, counts); failed = λ is. omega (arith, counts); others = λ ne. absurd (ne refl); told = refl; quiet = refl }
call (Err faults.Memory) old new counts = record { never_falls = omega (arith, counts); failed = λ is. absurd (cc is); others = λ _. counts; told = refl; quiet = refl }

-- ---- names

keeps : (old new : Place FileCounts) → new ≡ old → Keeps old new
keeps Unknown new is = tt
keeps Absent new is = is
keeps Away new is = is
keeps (Kept x) new is = is

out_stays : (old new : Option Known) → StaysAt old new → is_out new ≡ is_out old
out_stays None new stays = stays
out_stays (Some state) new stays = ap is_out stays

place_stays : (old new : Option Known) → StaysAt old new → Keeps (place_of old) (place_of new)
place_stays None new stays = tt
place_stays (Some state) new stays = keeps (place_of (Some state)) (place_of new) (ap place_of stays)

there : (state : Option Known) → is_some state ≡ true → is_there (place_of state) ≡ Some true
there None is = absurd (cc is)
there (Some known.There) is = refl
there (Some known.Out) is = refl
there (Some (known.Back counts)) is = refl

-- a fact on a name of which something is known, where it holds
if_there : (state : Option Known) (P : Type 0) → (is_some state ≡ true → P) → IfSome (is_there (place_of state)) (λ there. P ↔ IsTrue there)
if_there None P holds = tt
if_there (Some known.There) P holds = (λ p. refl, λ is. holds refl)
if_there (Some known.Out) P holds = (λ p. refl, λ is. holds refl)
if_there (Some (known.Back counts)) P holds = (λ p. refl, λ is. holds refl)

-- one that doesn't
unless_there : (state : Option Known) (P : Type 0) → (is_some state ≡ true → P → ⊥) → IfSome (is_there (place_of state)) (λ there. P ↔ (there ≡ false))
unless_there None P never = tt
unless_there (Some known.There) P never = (λ p. absurd (never refl p), λ is. absurd (cc is))
unless_there (Some known.Out) P never = (λ p. absurd (never refl p), λ is. absurd (cc is))
unless_there (Some (known.Back counts)) P never = (λ p. absurd (never refl p), λ is. absurd (cc is))

module _ (old new : ShelfNotes) where
  pub stay : Stays old.names new.names → AllStay (shelf_view old) (shelf_view new)
  stay stays = record {
    out = λ name. out_stays (known_at old.names name) (known_at new.names name) (stays name);
    places = λ name. place_stays (known_at old.names name) (known_at new.names name) (stays name);
    leaves = λ name x left. tt;
  }

  pub same : new.names ≡ old.names → AllStay (shelf_view old) (shelf_view new)
  same is = record {
    out = λ name. ap (λ (names : Names). is_out (known_at names name)) is;
    places = λ name. keeps (place_of (known_at old.names name)) (place_of (known_at new.names name)) (ap (λ (names : Names). place_of (known_at names name)) is);
    leaves = λ name x left. tt;
  }

  others : (name : ℕ) (state : Option Known) → Sets name state old.names new.names → OthersStay name (shelf_view old) (shelf_view new)
  others name state sets = record {
    out = λ n ne. ap is_out (sets.others n ne);
    places = λ n ne. keeps (place_of (known_at old.names n)) (place_of (known_at new.names n)) (ap place_of (sets.others n ne));
    leaves = λ n x ne left. tt;
  }

  others_same : (name : ℕ) → new.names ≡ old.names → OthersStay name (shelf_view old) (shelf_view new)
  others_same name is = record {
    out = λ n ne. ap (λ (names : Names). is_out (known_at names n)) is;
    places = λ n ne. keeps (place_of (known_at old.names n)) (place_of (known_at new.names n)) (ap (λ (names : Names). place_of (known_at names n)) is);
    leaves = λ n x ne left. tt;
  }

listed : (names : Names) (list : List ℕ) → list ≡ keys_of names → (name : ℕ) → (Contains list name ↔ (is_some (known_at names name) ≡ true))
listed names list is name = (
  λ has. IsSome-lookup_from_Contains {eq = eq_by_cmp nat_cmp} (eq_by_cmp_equiv nat_cmp_total) name names (subst (λ (l : List ℕ). Contains l name) is has),
  λ some. subst (λ (l : List ℕ). Contains l name) (sym is) (Contains-keys_from_lookup {eq = eq_by_cmp nat_cmp} equal name names some),
)
  where
    equal : (x y : ℕ) → eq_by_cmp nat_cmp x y ≡ true → x ≡ y
    equal x y is = grind (arith, common_steps)

some_stays : (old new : Option Known) → StaysAt old new → is_some old ≡ true → is_some new ≡ true
some_stays None new stays some = absurd (cc some)
some_stays (Some state) new stays some = ap is_some stays

pub lists : (result : Result (Vec ℕ) ShelfFault) (old new : ShelfNotes) → ListsNames old.names new.names result → Lists (shelf_view old) (shelf_view new) result
lists (Ok names) old new does = record {
  ascend = does.2;
  exact = λ name. if_there (known_at old.names name) (Contains names.items name) (λ some. (listed new.names names.items does.1 name).1 (some_stays (known_at old.names name) (known_at new.names name) (does.0 name) some));
  known = λ name has. there (known_at new.names name) ((listed new.names names.items does.1 name).0 has);
  stay = stay old new does.0;
}
lists (Err faults.Exists) old new does = absurd does
lists (Err faults.Absent) old new does = absurd does
lists (Err faults.Failed) old new does = stay old new does
lists (Err faults.Memory) old new does = stay old new does

-- ---- files that are handed out, removed or taken back

lent : (old new : ShelfNotes) (name : ℕ) (file : FileCounts) → file ≡ unused → Sets name (Some known.Out) old.names new.names → IsLent file_view name (shelf_view old) (shelf_view new) file
lent old new name file is sets = record {
  out = ap is_out sets.here;
  away = ap place_of sets.here;
  others = others old new name (Some known.Out) sets;
  no_fault = ap (λ (f : FileCounts). f.faults) is;
  quiet = λ quiet. absurd (cc quiet);
}

-- nothing is told of files
content_stays : (place : Place FileCounts) (file : FileCounts) → IfKept place (λ was. (file_view file).content ≡ (file_view was).content)
content_stays Unknown file = tt
content_stays Absent file = tt
content_stays Away file = tt
content_stays (Kept x) file = refl

images_stay : (place : Place FileCounts) (file : FileCounts) → IfKept place (λ was. (c : List ℕ) → (file_view file).images c → (file_view was).images c)
images_stay Unknown file = tt
images_stay Absent file = tt
images_stay Away file = tt
images_stay (Kept x) file = λ c left. tt

pub opens : (result : Result FileCounts ShelfFault) (old new : ShelfNotes) (name : ℕ) → OpensName name old.names new.names result → Opens file_view name (shelf_view old) (shelf_view new) result
opens (Ok file) old new name does = record {
  lent = lent old new name file does.0 does.1;
  content = content_stays (place_of (known_at old.names name)) file;
  images = images_stay (place_of (known_at old.names name)) file;
  leaves = λ told. absurd (cc told);
}
opens (Err faults.Exists) old new name does = absurd does
opens (Err faults.Absent) old new name does = same old new does.1
opens (Err faults.Failed) old new name does = same old new does
opens (Err faults.Memory) old new name does = same old new does

pub absent : {T : Type 0} (result : Result T ShelfFault) (state : Option Known) → (result ≡ Err faults.Absent → state ≡ None) → IfSome (is_there (place_of state)) (λ there. IsErrOf result faults.Absent ↔ (there ≡ false))
absent (Ok x) state none = unless_there state (IsErrOf (Ok x) faults.Absent) (λ some is. absurd (cc is))
absent (Err fault) state none = unless_there state (IsErrOf (Err fault) faults.Absent) (λ some is. absurd (cc (none is, some)))

opened_absent : (result : Result FileCounts ShelfFault) (old new : Names) (name : ℕ) → OpensName name old new result → result ≡ Err faults.Absent → known_at old name ≡ None
opened_absent (Ok x) old new name does is = absurd (cc is)
opened_absent (Err faults.Exists) old new name does is = absurd (cc is)
opened_absent (Err faults.Absent) old new name does is = does.0
opened_absent (Err faults.Failed) old new name does is = absurd (cc is)
opened_absent (Err faults.Memory) old new name does is = absurd (cc is)

pub open_absent : (result : Result FileCounts ShelfFault) (old new : Names) (name : ℕ) → OpensName name old new result → IfSome (is_there (place_of (known_at old name))) (λ there. IsErrOf result faults.Absent ↔ (there ≡ false))
open_absent result old new name does = absent result (known_at old name) (opened_absent result old new name does)

pub makes : (result : Result FileCounts ShelfFault) (old new : ShelfNotes) (name : ℕ) → MakesName name old.names new.names result → Makes file_view name (shelf_view old) (shelf_view new) result
makes (Ok file) old new name does = record { lent = lent old new name file does.1 does.2; empty = λ told. absurd (cc told); shows = tt; settled = λ told. absurd (cc told) }
makes (Err faults.Exists) old new name does = record { known = there (known_at new.names name) does.0; stay = stay old new does.1 }
makes (Err faults.Absent) old new name does = absurd does
makes (Err faults.Failed) old new name does = record {
  out = ap (λ (names : Names). is_out (known_at names name)) does.1;
  empty = λ told. absurd (cc told);
  leaves = λ told. absurd (cc told);
  others = others_same old new name does.1;
}
makes (Err faults.Memory) old new name does = same old new does.1

pub exists : (result : Result FileCounts ShelfFault) (old new : Names) (name : ℕ) → MakesName name old new result → IfSome (is_there (place_of (known_at old name))) (λ there. IsErrOf result faults.Exists ↔ IsTrue there)
exists (Ok file) old new name does = if_there (known_at old name) (IsErrOf (Ok file) faults.Exists) (λ some. absurd (cc (does.0, some)))
exists (Err faults.Exists) old new name does = if_there (known_at old name) (IsErrOf (Err faults.Exists) faults.Exists) (λ some. refl)
exists (Err faults.Absent) old new name does = absurd does
exists (Err faults.Failed) old new name does = if_there (known_at old name) (IsErrOf (Err faults.Failed) faults.Exists) (λ some. absurd (cc (does.0, some)))
exists (Err faults.Memory) old new name does = if_there (known_at old name) (IsErrOf (Err faults.Memory) faults.Exists) (λ some. absurd (cc (does.0, some)))

gone : (state : Option Known) → state ≡ None → IfSome (is_there (place_of state)) (λ there. there ≡ false)
gone None is = tt
gone (Some state) is = absurd (cc is)

pub removes : {T : Type 0} (result : Result T ShelfFault) (old new : ShelfNotes) (name : ℕ) → RemovesName name old.names new.names result → Removes name (shelf_view old) (shelf_view new) result
removes (Ok x) old new name does = record {
  out = ap is_out does.here;
  gone = gone (known_at new.names name) does.here;
  leaves = λ told. absurd (cc told);
  others = others old new name None does;
}
removes (Err faults.Exists) old new name does = absurd does
removes (Err faults.Absent) old new name does = same old new does.1
removes (Err faults.Failed) old new name does = record {
  out = ap is_out does.here;
  place = λ told. absurd (cc told);
  leaves = λ told. absurd (cc told);
  others = others old new name None does;
}
removes (Err faults.Memory) old new name does = absurd does

removed_absent : {T : Type 0} (result : Result T ShelfFault) (old new : Names) (name : ℕ) → RemovesName name old new result → result ≡ Err faults.Absent → known_at old name ≡ None
removed_absent (Ok x) old new name does is = absurd (cc is)
removed_absent (Err faults.Exists) old new name does is = absurd (cc is)
removed_absent (Err faults.Absent) old new name does is = does.0
removed_absent (Err faults.Failed) old new name does is = absurd (cc is)
removed_absent (Err faults.Memory) old new name does is = absurd (cc is)

pub remove_absent : {T : Type 0} (result : Result T ShelfFault) (old new : Names) (name : ℕ) → RemovesName name old new result → IfSome (is_there (place_of (known_at old name))) (λ there. IsErrOf result faults.Absent ↔ (there ≡ false))
remove_absent result old new name does = absent result (known_at old name) (removed_absent result old new name does)

pub takes_back : (old new : ShelfNotes) (name : ℕ) (file : FileCounts) → Sets name (Some (known.Back file)) old.names new.names → new.faults ≡ added old.faults file.faults → TakesBack file_view name file (shelf_view old) (shelf_view new)
takes_back old new name file sets count = record {
  out = ap is_out sets.here;
  kept = ap place_of sets.here;
  leaves = λ told. absurd (cc told);
  others = others old new name (Some (known.Back file)) sets;
  count = omega (arith, count);
  never_falls = omega (arith, count);
  told = refl;
  quiet = λ quiet. absurd (cc quiet);
  quiet_before = λ quiet. quiet;
}
