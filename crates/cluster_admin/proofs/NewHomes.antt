-- Disks that are drawn for a new volume are there, and no two of them are one.
use Rattle.std.specs.Prelude.{Option, Some, None, slice_get, nat_eq, nat_lt, not}
use Rattle.std.specs.List.{count_by, list_any}
use Rattle.std.proofs.Common.{◌≡◌, ℕ, zero, suc, ◌<◌, ◌≤◌, ◌+◌, ◌&&◌, ◌||◌, Bool, true, false, cond, if◌then◌else◌, List, [], ◌∷◌, ◌++◌, length, zero-add, ◌⊎◌, inl, inr, refl, sym, ap, ◌∙◌, subst, arith}
use Rattle.std.proofs.lemmas.Bool.{eq-eqb, lt-ltb, le-ltb, ltb-false}
use Rattle.std.proofs.lemmas.List.{length_push}
use Rattle.std.proofs.lemmas.List.Sums.{sum_by-cons, count_by-le-length}
use Rattle.code_mode.specs.declared.mode.Mode.{Mode}
use Rattle.code_mode.specs.Mode.{total_count}
use Rattle.unit_id.specs.declared.homes.Home.{Home}
use Rattle.cluster_admin.specs.declared.placer.Place.{Place}
use Rattle.cluster_admin.specs.declared.disks.Disk.{Disk}
use Rattle.cluster_admin.specs.declared.volumes.Volume.{Volume}
use Rattle.cluster_admin.specs.declared.plans.Planned.{Planned}
use Rattle.cluster_admin.specs.Disks.{is_free, free_count}
use Rattle.cluster_admin.specs.Volumes.{units_on}
use Rattle.cluster_admin.specs.Plans.{is_aimed}
use Rattle.cluster_admin.specs.Choosing.{is_taken, options_from, options_of}
use Rattle.cluster_admin.specs.declared.fault.AdminFault.TheVariants as faults
use Rattle.cluster_admin.specs.Placing.{Plan}
use Rattle.cluster_admin.specs.Drawing.{drawn, choice, new_homes}
use Rattle.cluster_admin.specs.Cluster.{State}
use Rattle.cluster_admin.specs.Refusals.{first_fault, new_volume_fault}
use Rattle.cluster_admin.specs.NewHomes.{IsThere, IsOffered, AreApart, AreNewHomes, first_unit}

-- ---- what is among the options

module _ (volumes : List (Option Volume)) (tasks : List Planned) (vid : ℕ) where
  -- the disk of a home is taken
  held : (home i : ℕ) (homes : List ℕ) → slice_get homes i ≡ Some home → is_taken homes tasks vid home ≡ true
  held home i [] is = absurd (cc)
  held home zero (first ∷ homes) is =
      let same : nat_eq first home ≡ true = eq-eqb first home (cc) in
      ap (λ here. (here || list_any (λ h. nat_eq h home) homes) || is_aimed tasks vid home) same
  held home (suc i) (first ∷ homes) is = go (nat_eq first home) (held home i homes is) where
    go : (here : Bool) → is_taken homes tasks vid home ≡ true → ((here || list_any (λ h. nat_eq h home) homes) || is_aimed tasks vid home) ≡ true
    go true rest = refl
    go false rest = rest

  module _ (homes : List ℕ) where
    -- the disk is one of so many from this number on, and isn't taken
    abbrev pub IsAmong : ℕ → ℕ → ℕ → Type 0
    IsAmong number count disk = (number ≤ disk) × (disk < number + count) × (is_taken homes tasks vid disk ≡ false)

    -- such is the disk of each option
    among : (disks : List Disk) (number place : ℕ) (option : Place) → slice_get (options_from volumes homes tasks vid number disks) place ≡ Some option → IsAmong number (length disks) option.disk
    among [] number place option is = absurd (cc)
    among (disk ∷ disks) number place option is = go (is_free disk) (is_taken homes tasks vid number) refl place is (λ k at. among disks (number + 1) k option at) where
      go : (free taken : Bool) → is_taken homes tasks vid number ≡ taken → (k : ℕ)
          → slice_get (if free && not taken then record { disk = number; units = units_on volumes number } ∷ options_from volumes homes tasks vid (number + 1) disks
          else options_from volumes homes tasks vid (number + 1) disks) k ≡ Some option
          → ((k : ℕ) → slice_get (options_from volumes homes tasks vid (number + 1) disks) k ≡ Some option → IsAmong (number + 1) (length disks) option.disk)
          → IsAmong number (length (disk ∷ disks)) option.disk
      go true true same k at later = let rest = later k at in (omega (arith, rest.0), omega (arith, rest.1), rest.2)
      go true false same zero at later =
          let here : number ≡ option.disk = cc in
          (omega (arith, here), omega (arith, here), subst (λ d. is_taken homes tasks vid d ≡ false) here same)
      go true false same (suc k) at later = let rest = later k at in (omega (arith, rest.0), omega (arith, rest.1), rest.2)
      go false taken same k at later = let rest = later k at in (omega (arith, rest.0), omega (arith, rest.1), rest.2)

-- ---- how many options there are

-- a number is above the next one, or is the next one, where it is above this one
above_or_next : (below home : ℕ) → cond (nat_lt (below + 1) home) 1 0 + cond (nat_eq home (below + 1)) 1 0 ≡ cond (nat_lt below home) 1 0
above_or_next below home = grind (arith, lt-ltb, le-ltb, eq-eqb)

above_and_next : (below : ℕ) (homes : List ℕ) → count_by (nat_lt (below + 1)) homes + count_by (λ home. nat_eq home (below + 1)) homes ≡ count_by (nat_lt below) homes
above_and_next below [] = refl
above_and_next below (home ∷ homes) =
    let rest = above_and_next below homes in
    let here = above_or_next below home in
    omega (
      arith,
      rest,
      here,
      sum_by-cons (λ h. cond (nat_lt (below + 1) h) 1 0) home homes,
      sum_by-cons (λ h. cond (nat_eq h (below + 1)) 1 0) home homes,
      sum_by-cons (λ h. cond (nat_lt below h) 1 0) home homes,
    )

-- a disk is taken by a home
taken_by : (number : ℕ) (homes : List ℕ) → is_taken homes [] 0 number ≡ true → 1 ≤ count_by (λ home. nat_eq home number) homes
taken_by number [] taken = absurd (cc)
taken_by number (home ∷ homes) taken =
    let counted = go (nat_eq home number) taken (taken_by number homes) in
    omega (arith, counted, sum_by-cons (λ h. cond (nat_eq h number) 1 0) home homes)
  where
    go : (here : Bool) → ((here || list_any (λ h. nat_eq h number) homes) || false) ≡ true → (is_taken homes [] 0 number ≡ true → 1 ≤ count_by (λ h. nat_eq h number) homes)
        → 1 ≤ cond here 1 0 + count_by (λ h. nat_eq h number) homes
    go true found rest = omega arith
    go false found rest = omega (arith, rest found)

-- each free disk is an option or that of a home
enough_from : (volumes : List (Option Volume)) (homes : List ℕ) (disks : List Disk) (below : ℕ)
    → free_count disks ≤ length (options_from volumes homes [] 0 (below + 1) disks) + count_by (nat_lt below) homes
enough_from volumes homes [] below = omega arith
enough_from volumes homes (disk ∷ disks) below =
    let counted = go (is_free disk) (is_taken homes [] 0 (below + 1)) (taken_by (below + 1) homes) (above_and_next below homes) (enough_from volumes homes disks (below + 1)) in
    omega (arith, sum_by-cons (λ d. cond (is_free d) 1 0) disk disks, counted)
  where
    go : (free taken : Bool) → (taken ≡ true → 1 ≤ count_by (λ home. nat_eq home (below + 1)) homes)
        → count_by (nat_lt (below + 1)) homes + count_by (λ home. nat_eq home (below + 1)) homes ≡ count_by (nat_lt below) homes
        → free_count disks ≤ length (options_from volumes homes [] 0 (below + 1 + 1) disks) + count_by (nat_lt (below + 1)) homes
        → cond free 1 0 + free_count disks
        ≤ length (if free && not taken then record { disk = below + 1; units = units_on volumes (below + 1) } ∷ options_from volumes homes [] 0 (below + 1 + 1) disks
        else options_from volumes homes [] 0 (below + 1 + 1) disks) + count_by (nat_lt below) homes
    go true true by_home split later = omega (arith, by_home refl, split, later)
    go true false by_home split later = omega (arith, split, later)
    go false taken by_home split later = omega (arith, split, later)

-- where fewer homes are than free disks, there is an option
some_option : (volumes : List (Option Volume)) (homes : List ℕ) (disks : List Disk) → length homes < free_count disks → 0 < length (options_of disks volumes homes [] 0)
some_option volumes homes disks fewer = omega (arith, fewer, enough_from volumes homes disks 0, count_by-le-length (nat_lt 0) homes)

-- ---- one disk more

-- an element of a list with one more is one of the list, or the last
last_or_before : (homes : List ℕ) (disk i found : ℕ) → slice_get (homes ++ disk ∷ []) i ≡ Some found → (slice_get homes i ≡ Some found) ⊎ ((i ≡ length homes) × (disk ≡ found))
last_or_before [] disk zero found is = inr (refl, cc)
last_or_before [] disk (suc i) found is = absurd (cc)
last_or_before (home ∷ homes) disk zero found is = inl is
last_or_before (home ∷ homes) disk (suc i) found is = go (last_or_before homes disk i found is) where
  go : (slice_get homes i ≡ Some found) ⊎ ((i ≡ length homes) × (disk ≡ found)) → (slice_get homes i ≡ Some found) ⊎ ((suc i ≡ length (home ∷ homes)) × (disk ≡ found))
  go (inl before) = inl before
  go (inr last) = inr (ap suc last.0, last.1)

one_more : (count : ℕ) (homes : List ℕ) (disk : ℕ) → AreApart count homes → IsThere count disk → ((i : ℕ) → slice_get homes i ≡ Some disk → ⊥) → AreApart count (homes ++ disk ∷ [])
one_more count homes disk old there new = record {
  there = λ place found is. there_at place found (last_or_before homes disk place found is);
  apart = λ i j found one other. apart_at i j found (last_or_before homes disk i found one) (last_or_before homes disk j found other);
} where
  there_at : (place found : ℕ) → (slice_get homes place ≡ Some found) ⊎ ((place ≡ length homes) × (disk ≡ found)) → IsThere count found
  there_at place found (inl before) = old.there place found before
  there_at place found (inr last) = subst (IsThere count) last.1 there

  apart_at : (i j found : ℕ) → (slice_get homes i ≡ Some found) ⊎ ((i ≡ length homes) × (disk ≡ found))
      → (slice_get homes j ≡ Some found) ⊎ ((j ≡ length homes) × (disk ≡ found)) → i ≡ j
  apart_at i j found (inl one) (inl other) = old.apart i j found one other
  apart_at i j found (inl one) (inr other) = absurd (new i (one ∙ ap Some (sym other.1)))
  apart_at i j found (inr one) (inl other) = absurd (new j (other ∙ ap Some (sym one.1)))
  apart_at i j found (inr one) (inr other) = one.0 ∙ sym other.0

pub no_disks : (count : ℕ) → AreApart count []
no_disks count = record { there = λ place disk is. absurd (cc); apart = λ i j disk one other. absurd (cc) }

-- a disk more that is one of the options, where there are any
pub draw_apart : (disks : List Disk) (volumes : List (Option Volume)) (homes after : List ℕ) (index count disk : ℕ)
    → (count ≤ free_count disks → AreApart (length disks) homes) → length homes ≡ index → index < count
    → after ≡ homes ++ disk ∷ [] → (0 < length (options_of disks volumes homes [] 0) → IsOffered (options_of disks volumes homes [] 0) disk)
    → count ≤ free_count disks → AreApart (length disks) after
draw_apart disks volumes homes after index count disk old as_many below after_is offered enough =
    let found = offered (some_option volumes homes disks (omega (arith, as_many, below, enough))) in
    subst (AreApart (length disks)) (sym after_is) (one_of found (drawn_among found))
  where
    drawn_among : IsOffered (options_of disks volumes homes [] 0) disk → IsAmong volumes [] 0 homes 1 (length disks) disk
    drawn_among found = subst (IsAmong volumes [] 0 homes 1 (length disks)) (sym found.3) (among volumes [] 0 homes disks 1 found.0 found.1 found.2)

    one_of : IsOffered (options_of disks volumes homes [] 0) disk → IsAmong volumes [] 0 homes 1 (length disks) disk → AreApart (length disks) (homes ++ disk ∷ [])
    one_of found is = one_more (length disks) homes disk (old enough) (omega (arith, is.0), omega (arith, is.1)) (λ i at. absurd (cc (held volumes [] 0 disk i homes at, is.2)))

-- ---- a volume

-- as many disks as were asked for
drawn_count : (plan : Plan) (disks : List Disk) (volumes : List (Option Volume)) (count : ℕ) → length (drawn plan disks volumes count).homes ≡ count
drawn_count plan disks volumes zero = refl
drawn_count plan disks volumes (suc count) =
    let before = drawn plan disks volumes count in
    length_push before.homes (choice plan before.shown (options_of disks volumes before.homes [] 0)) ∙ omega (arith, drawn_count plan disks volumes count)

homes_count : (vid index : ℕ) (disks : List ℕ) → length (new_homes vid index disks) ≡ length disks
homes_count vid index [] = refl
homes_count vid index (disk ∷ disks) = ap suc (homes_count vid (index + 1) disks)

-- the home at a place has the unit of its index, on the disk of its place
abbrev pub IsHome : ℕ → ℕ → List ℕ → ℕ → Home → Type 0
IsHome vid index disks place home = (home.unit ≡ first_unit vid (index + place)) × (home.broken ≡ false) × (slice_get disks place ≡ Some home.disk)

home_in : (vid index : ℕ) (disks : List ℕ) (place : ℕ) (home : Home) → slice_get (new_homes vid index disks) place ≡ Some home → IsHome vid index disks place home
home_in vid index [] place home is = absurd (cc)
home_in vid index (disk ∷ disks) zero home is =
    let made : Home = record { unit = first_unit vid index; disk = disk; broken = false } in
    let same : made ≡ home = cc in
    subst (λ h. IsHome vid index (disk ∷ disks) zero h) same (ap (first_unit vid) (omega arith), refl, refl)
home_in vid index (disk ∷ disks) (suc place) home is =
    let rest = home_in vid (index + 1) disks place home is in
    (rest.0 ∙ ap (first_unit vid) (omega arith), rest.1, rest.2)

-- a volume that isn't refused has enough free disks
enough_disks : (state : State) (mode : Mode) → new_volume_fault state mode ≡ None → total_count mode ≤ free_count state.disks
enough_disks state mode none = go (nat_lt 63 (length state.volumes)) (nat_lt (free_count state.disks) (total_count mode)) none (ltb-false (free_count state.disks) (total_count mode)) where
  go : (full few : Bool)
      → first_fault ((full, faults.LimitVolumes) ∷ (few, faults.FewDisks (free_count state.disks) (total_count mode)) ∷ []) ≡ None
      → (few ≡ false → total_count mode ≤ free_count state.disks) → total_count mode ≤ free_count state.disks
  go true few is enough = absurd (cc)
  go false true is enough = absurd (cc)
  go false false is enough = enough refl

-- the homes of a new volume on disks that are there and apart
pub are_new : (plan : Plan) (state : State) (mode : Mode) (vid : ℕ) (homes : List Home) (disks : List ℕ)
    → disks ≡ (drawn plan state.disks state.volumes (total_count mode)).homes → homes ≡ new_homes vid 0 disks
    → new_volume_fault state mode ≡ None → (total_count mode ≤ free_count state.disks → AreApart (length state.disks) disks)
    → AreNewHomes (length state.disks) mode vid homes
are_new plan state mode vid homes disks drawn_is homes_is allowed apart = subst (AreNewHomes (length state.disks) mode vid) (sym homes_is) made where
  legal : AreApart (length state.disks) disks
  legal = apart (enough_disks state mode allowed)

  made : AreNewHomes (length state.disks) mode vid (new_homes vid 0 disks)
  made = record {
    count = homes_count vid 0 disks ∙ ap length drawn_is ∙ drawn_count plan state.disks state.volumes (total_count mode);
    own = λ place home at. let is = home_in vid 0 disks place home at in (is.0 ∙ ap (first_unit vid) (zero-add place), is.1);
    there = λ place home at. legal.there place home.disk (home_in vid 0 disks place home at).2;
    apart = λ i j one other at_i at_j same.
        legal.apart i j other.disk ((home_in vid 0 disks i one at_i).2 ∙ ap Some same) (home_in vid 0 disks j other at_j).2;
  }
