-- What is planned for messages, as a link and the protocol have it.
use Rattle.std.proofs.Common.{◌≡◌, ◌∙◌, sym, ap, subst, refl, ℕ, zero, suc, ◌-◌, Bool, true, false, cond, ◌==◌, List, [], ◌∷◌, ◌++◌, map, filter, drop, replicate, length, slice_set, eqb-true, eq-eqb, arith}
use Rattle.std.proofs.lemmas.List.{append-nil, map-append, get_or-set_same, get_or-set_other, get_or-replicate, length-replicate, length-set}
use Rattle.std.proofs.lemmas.List.Elements.{filter-append}
use Rattle.blob_node.specs.declared.fate.Fate.{Fate}
use Rattle.blob_node.specs.Link.{IsDiskOf, fates_of, with_fates, next_of}
use Rattle.volume_world.specs.Run.{Planned, next_fate, without_next}
use Rattle.volume_world.specs.Mailbag.{HasPlanned, fates_for}
use Rattle.volume_world.proofs.SameNumbers.{flipped, same_here}

for_more : (xs ys : List Planned) (disk : ℕ) → fates_for (xs ++ ys) disk ≡ fates_for xs disk ++ fates_for ys disk
for_more xs ys disk =
    ap (map (λ (p : Planned). p.fate)) (filter-append (λ (p : Planned). p.disk == disk) xs ys)
    ∙ map-append (λ (p : Planned). p.fate) (filter (λ (p : Planned). p.disk == disk) xs) (filter (λ (p : Planned). p.disk == disk) ys)

-- one more in front
for_first : (p : Planned) (ps : List Planned) (disk : ℕ) (t : Bool) → (p.disk == disk) ≡ t → fates_for (p ∷ ps) disk ≡ cond t (p.fate ∷ fates_for ps disk) (fates_for ps disk)
for_first p ps disk true e = ap (λ b. map (λ (p : Planned). p.fate) (cond b (p ∷ filter (λ (p : Planned). p.disk == disk) ps) (filter (λ (p : Planned). p.disk == disk) ps))) e
for_first p ps disk false e = ap (λ b. map (λ (p : Planned). p.fate) (cond b (p ∷ filter (λ (p : Planned). p.disk == disk) ps) (filter (λ (p : Planned). p.disk == disk) ps))) e

for_same : (n disk : ℕ) (fate : Fate) → fates_for (replicate n (record { disk = disk; fate = fate })) disk ≡ replicate n fate
for_same zero disk fate = refl
for_same (suc n) disk fate =
    for_first (record { disk = disk; fate = fate }) (replicate n (record { disk = disk; fate = fate })) disk true (same_here disk)
    ∙ ap (λ fates. fate ∷ fates) (for_same n disk fate)

for_others : (n disk other : ℕ) (fate : Fate) → (disk == other) ≡ false → fates_for (replicate n (record { disk = disk; fate = fate })) other ≡ []
for_others zero disk other fate e = refl
for_others (suc n) disk other fate e =
    for_first (record { disk = disk; fate = fate }) (replicate n (record { disk = disk; fate = fate })) other false e ∙ for_others n disk other fate e

-- ---- the next fate

next_first : (p : Planned) (ps : List Planned) (disk : ℕ) (t : Bool) → (p.disk == disk) ≡ t → next_of (fates_for ps disk) ≡ next_fate ps disk
    → next_of (fates_for (p ∷ ps) disk) ≡ cond t p.fate (next_fate ps disk)
next_first p ps disk true e k = ap next_of (for_first p ps disk true e)
next_first p ps disk false e k = ap next_of (for_first p ps disk false e) ∙ k

next_for : (planned : List Planned) (disk : ℕ) → next_of (fates_for planned disk) ≡ next_fate planned disk
next_for [] disk = refl
next_for (p ∷ ps) disk = next_first p ps disk (p.disk == disk) refl (next_for ps disk)

taken_first : (p : Planned) (ps : List Planned) (disk : ℕ) (t : Bool) → (p.disk == disk) ≡ t → fates_for (without_next ps disk) disk ≡ drop 1 (fates_for ps disk)
    → fates_for (cond t ps (p ∷ without_next ps disk)) disk ≡ drop 1 (fates_for (p ∷ ps) disk)
taken_first p ps disk true e k = sym (ap (drop 1) (for_first p ps disk true e))
taken_first p ps disk false e k = for_first p (without_next ps disk) disk false e ∙ k ∙ sym (ap (drop 1) (for_first p ps disk false e))

taken_for : (planned : List Planned) (disk : ℕ) → fates_for (without_next planned disk) disk ≡ drop 1 (fates_for planned disk)
taken_for [] disk = refl
taken_for (p ∷ ps) disk = taken_first p ps disk (p.disk == disk) refl (taken_for ps disk)

left_behind : (p : Planned) (ps qs : List Planned) (other : ℕ) (t : Bool) → (p.disk == other) ≡ t → fates_for qs other ≡ fates_for ps other
    → fates_for (p ∷ qs) other ≡ fates_for (p ∷ ps) other
left_behind p ps qs other true e k = for_first p qs other true e ∙ ap (λ fates. p.fate ∷ fates) k ∙ sym (for_first p ps other true e)
left_behind p ps qs other false e k = for_first p qs other false e ∙ k ∙ sym (for_first p ps other false e)

left_first : (p : Planned) (ps : List Planned) (disk other : ℕ) (t : Bool) → (p.disk == disk) ≡ t → (other == disk) ≡ false → fates_for (without_next ps disk) other ≡ fates_for ps other
    → fates_for (cond t ps (p ∷ without_next ps disk)) other ≡ fates_for (p ∷ ps) other
left_first p ps disk other true e apart k =
    sym (for_first p ps other false (ap (λ d. d == other) (eqb-true p.disk disk e) ∙ flipped other disk apart))
left_first p ps disk other false e apart k = left_behind p ps (without_next ps disk) other (p.disk == other) refl k

left_for : (planned : List Planned) (disk other : ℕ) → (other == disk) ≡ false → fates_for (without_next planned disk) other ≡ fates_for planned other
left_for [] disk other apart = refl
left_for (p ∷ ps) disk other apart = left_first p ps disk other (p.disk == disk) refl apart (left_for ps disk other apart)

-- ---- links

-- a link has what is planned once one disk has other fates
module _ (link : List (List Fate)) (planned after : List Planned) (disk : ℕ) (fates : List Fate) (on : IsDiskOf link disk) (has : HasPlanned link planned)
    (here : fates ≡ fates_for after disk) (others : (other : ℕ) → (other == disk) ≡ false → fates_for after other ≡ fates_for planned other) where
  there : (other : ℕ) (t : Bool) → (other == disk) ≡ t → IsDiskOf link other → fates_of (with_fates link disk fates) other ≡ fates_for after other
  there other true e at =
      subst (λ d. fates_of (with_fates link disk fates) d ≡ fates_for after d) (sym (eqb-true other disk e))
      (get_or-set_same link (disk - 1) fates [] (omega arith) ∙ here)
  there other false e at =
      let apart : (other - 1 ≡ disk - 1) → ⊥ = λ h. let same : other ≡ disk = omega arith in cc (eq-eqb other disk same, e) in
      get_or-set_other link (disk - 1) (other - 1) fates [] apart ∙ has other at ∙ sym (others other e)

  with_fates_has : HasPlanned (with_fates link disk fates) after
  with_fates_has other at =
      let long : length (slice_set link (disk - 1) fates) ≡ length link = length-set link (disk - 1) fates in
      there other (other == disk) refl (at.0, omega arith)

-- planning more
pub plan_has : (link : List (List Fate)) (planned : List Planned) (disk : ℕ) (fate : Fate) (count : ℕ) → IsDiskOf link disk → HasPlanned link planned
    → HasPlanned (with_fates link disk (fates_of link disk ++ replicate count fate)) (planned ++ replicate count (record { disk = disk; fate = fate }))
plan_has link planned disk fate count on has =
    let added : List Planned = replicate count (record { disk = disk; fate = fate }) in
    with_fates_has link planned (planned ++ added) disk (fates_of link disk ++ replicate count fate) on has
    (sym (for_more planned added disk ∙ ap (λ fates. fates_for planned disk ++ fates) (for_same count disk fate) ∙ ap (λ fates. fates ++ replicate count fate) (sym (has disk on))))
    (λ other apart. for_more planned added other ∙ ap (λ fates. fates_for planned other ++ fates) (for_others count disk other fate (flipped other disk apart)) ∙ append-nil (fates_for planned other))

-- taking the next fate
pub next_has : (link : List (List Fate)) (planned : List Planned) (disk : ℕ) → IsDiskOf link disk → HasPlanned link planned
    → HasPlanned (with_fates link disk (drop 1 (fates_of link disk))) (without_next planned disk)
next_has link planned disk on has =
    with_fates_has link planned (without_next planned disk) disk (drop 1 (fates_of link disk)) on has
    (ap (drop 1) (has disk on) ∙ sym (taken_for planned disk))
    (λ other apart. left_for planned disk other apart)

-- which it is
pub next_is : (link : List (List Fate)) (planned : List Planned) (disk : ℕ) → IsDiskOf link disk → HasPlanned link planned
    → next_of (fates_of link disk) ≡ next_fate planned disk
next_is link planned disk on has = ap next_of (has disk on) ∙ next_for planned disk

-- nothing is planned at first
pub none_has : (disks : ℕ) → HasPlanned (replicate disks []) []
none_has disks disk on = get_or-replicate disks (disk - 1) [] [] (omega (arith, on.1, length-replicate {A = List Fate} disks []))
