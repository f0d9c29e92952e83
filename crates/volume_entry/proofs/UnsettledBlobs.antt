-- The least blob that a test lets pass, found in what listings show.
use Rattle.std.proofs.Common.{◌≡◌, ◌∙◌, sym, ap, refl, subst, ℕ, zero, suc, ◌+◌, ◌<◌, ◌≤◌, ◌⊎◌, Bool, true, false, cond, ◌||◌, ◌==◌, List, [], ◌∷◌, ◌++◌, length, take, get_or, inl, inr, arith, Option, None, Some}
use Rattle.std.specs.Prelude.{not, nat_le}
use Rattle.std.proofs.lemmas.List.{take_more, take_all}
use Rattle.std.proofs.lemmas.Bool.{eqb-true, eqb-false, lt-leb}
use Rattle.code_mode.specs.VolumeShape.{VolumeShape}
use Rattle.unit_id.specs.Lists.{any, is_in, count_below, some_below}
use Rattle.unit_id.specs.Place.{Location}
use Rattle.unit_id.specs.Shown.{Shown}
use Rattle.unit_id.proofs.Bools.{or_none, or_cases}
use Rattle.unit_id.proofs.Counts.{none_counted}
use Rattle.volume_entry.specs.Manager.{Transfer}
use Rattle.volume_entry.specs.Benchmark.{Due, shows_live, shows_marked}
use Rattle.volume_entry.specs.HeardMemory.{HeardMemory}
use Rattle.volume_entry.specs.HeardCounts.{usable, live_at, marked_at, due_by, settled_by, unsettled_by}
use Rattle.volume_entry.specs.Unsettled.{IsBefore, Passes, Lowers, IsLeast, blobs_of}

-- ---- one blob after another

not_less : (n bid : ℕ) → (n == bid || false) ≡ true → n < bid → ⊥
not_less n bid i h = elim (or_cases (n == bid) false i) [ inl e ↦ let s = eqb-true n bid e in omega (arith, s, h) | inr e ↦ cc ]

-- a blob that is less, and passes
pub before_more : (test : ℕ → Bool) (found : Option ℕ) (bid : ℕ) → test bid ≡ true → IsBefore found bid → Lowers test (bid ∷ []) found (Some bid)
before_more test None bid t b = record { passes = λ p. t; less = λ n h. tt; tried = λ n i h. absurd (not_less n bid i h) }
before_more test (Some f) bid t b = record { passes = λ p. t; less = λ n h. omega (arith, h, b); tried = λ n i h. absurd (not_less n bid i h) }

-- a blob that isn't less, or doesn't pass
pub still_found : (test : ℕ → Bool) (found : Option ℕ) (bid : ℕ) → (IsBefore found bid → test bid ≡ false) → Lowers test (bid ∷ []) found found
still_found test found bid h = record { passes = λ p. p; less = λ n b. b; tried = λ n i b. same n i b } where
  same : (n : ℕ) → (n == bid || false) ≡ true → IsBefore found n → test n ≡ false
  same n i b = elim (or_cases (n == bid) false i) [
    | inl e ↦ subst (λ k. test k ≡ false) (sym (eqb-true n bid e)) (h (subst (IsBefore found) (eqb-true n bid e) b))
    | inr e ↦ cc
  ]

-- none are tried
pub lowers_none : (test : ℕ → Bool) (found : Option ℕ) → Lowers test [] found found
lowers_none test found = record { passes = λ p. p; less = λ n b. b; tried = λ n i b. cc }

in_both : (n : ℕ) (xs ys : List ℕ) → is_in n (xs ++ ys) ≡ true → (is_in n xs ≡ true) ⊎ (is_in n ys ≡ true)
in_both n [] ys h = inr h
in_both n (x ∷ xs) ys h = go (n == x) h (in_both n xs ys) where
  go : (same : Bool) → (same || is_in n (xs ++ ys)) ≡ true → (is_in n (xs ++ ys) ≡ true → (is_in n xs ≡ true) ⊎ (is_in n ys ≡ true)) → ((same || is_in n xs) ≡ true) ⊎ (is_in n ys ≡ true)
  go true e rest = inl refl
  go false e rest = rest e

-- some are tried, and then others
pub lowers_both : (test : ℕ → Bool) (xs ys : List ℕ) (a b c : Option ℕ) → Lowers test xs a b → Lowers test ys b c → Lowers test (xs ++ ys) a c
lowers_both test xs ys a b c h k = record {
  passes = λ p. k.passes (h.passes p);
  less = λ n before. h.less n (k.less n before);
  tried = λ n i before. elim (in_both n xs ys i) [ inl e ↦ h.tried n e (k.less n before) | inr e ↦ k.tried n e before ];
}

pub lowers_more : (test : ℕ → Bool) (bids : List ℕ) (k bid d : ℕ) (a b c : Option ℕ) → k < length bids → bid ≡ get_or bids k d → Lowers test (take k bids) a b → Lowers test (bid ∷ []) b c
    → Lowers test (take (k + 1) bids) a c
lowers_more test bids k bid d a b c within e h one =
    let step : take (k + 1) bids ≡ take k bids ++ bid ∷ [] = take_more bids k d within ∙ ap (λ y. take k bids ++ y ∷ []) (sym e) in
    subst (λ xs. Lowers test xs a c) (sym step) (lowers_both test (take k bids) (bid ∷ []) a b c h one)

pub lowers_all : (test : ℕ → Bool) (bids : List ℕ) (k : ℕ) (a b : Option ℕ) → length bids ≤ k → Lowers test (take k bids) a b → Lowers test bids a b
lowers_all test bids k a b h l = subst (λ xs. Lowers test xs a b) (take_all k bids h) l

-- ---- one listing after another

-- what passes below an index is found
pub record Found (test : ℕ → Bool) (shown : ℕ → List ℕ) (index : ℕ) (found : Option ℕ) : Type 0 where
  pub passes : Passes test found
  pub tried : (at bid : ℕ) → at < index → is_in bid (shown at) ≡ true → IsBefore found bid → test bid ≡ false

pub found_none : (test : ℕ → Bool) (shown : ℕ → List ℕ) → Found test shown 0 None
found_none test shown = record { passes = tt; tried = λ at bid below i before. absurd (omega (arith, below)) }

pub found_more : (test : ℕ → Bool) (shown : ℕ → List ℕ) (index : ℕ) (old new : Option ℕ) → Found test shown index old → Lowers test (shown index) old new → Found test shown (index + 1) new
found_more test shown index old new f l = record { passes = l.passes f.passes; tried = λ at bid below i before. go at bid below i before (at == index) refl } where
  go : (at bid : ℕ) → at < index + 1 → is_in bid (shown at) ≡ true → IsBefore new bid → (same : Bool) → (at == index) ≡ same → test bid ≡ false
  go at bid below i before true e = l.tried bid (subst (λ k. is_in bid (shown k) ≡ true) (eqb-true at index e) i) before
  go at bid below i before false e = let other = eqb-false at index e in f.tried at bid (omega (arith, below, other)) i (l.less bid before)

some_or_none : (n : ℕ) (f : ℕ → Bool) → ((i : ℕ) × (i < n) × (f i ≡ true)) ⊎ ((i : ℕ) → i < n → f i ≡ false)
some_or_none zero f = inr (λ i h. absurd (omega (arith, h)))
some_or_none (suc n) f = go (f n) refl (some_or_none n f) where
  go : (b : Bool) → f n ≡ b → ((i : ℕ) × (i < n) × (f i ≡ true)) ⊎ ((i : ℕ) → i < n → f i ≡ false) → ((i : ℕ) × (i < suc n) × (f i ≡ true)) ⊎ ((i : ℕ) → i < suc n → f i ≡ false)
  go true e rest = inl (n, omega arith, e)
  go false e (inl found) = inl (found.0, (let h = found.1 in omega (arith, h)), found.2)
  go false e (inr none) = inr (λ i h. last i h (i == n) refl) where
    last : (i : ℕ) → i < suc n → (same : Bool) → (i == n) ≡ same → f i ≡ false
    last i h true k = ap f (eqb-true i n k) ∙ e
    last i h false k = let other = eqb-false i n k in none i (omega (arith, h, other))

pub found_all : (test : ℕ → Bool) (shown : ℕ → List ℕ) (total : ℕ) (found : Option ℕ) → Found test shown total found
    → ((bid : ℕ) → ((at : ℕ) → at < total → is_in bid (shown at) ≡ false) → test bid ≡ false) → IsLeast test found
found_all test shown total found f others = record {
  passes = f.passes;
  least = λ bid before. elim (some_or_none total (λ at. is_in bid (shown at))) [
    | inl here ↦ f.tried here.0 bid here.1 here.2 before
    | inr none ↦ others bid none
  ];
}

-- ---- a blob that no listing shows gets nothing

shown_by : (o : Option Shown) (bid : ℕ) → is_in bid (blobs_of o) ≡ false → (shows_live o bid ≡ false) × (shows_marked o bid ≡ false)
shown_by None bid h = (refl, refl)
shown_by (Some shown) bid h = apart shown.live h where
  apart : (xs : List ℕ) → is_in bid (xs ++ shown.marked) ≡ false → (is_in bid xs ≡ false) × (is_in bid shown.marked ≡ false)
  apart [] e = (refl, e)
  apart (x ∷ xs) e = let both = or_none (bid == x) (is_in bid (xs ++ shown.marked)) e in let rest = apart xs both.1 in (ap (λ b. b || is_in bid xs) both.0 ∙ rest.0, rest.1)

nothing_lacks : (ts : List Transfer) → any (λ (t : Transfer). false) ts ≡ false
nothing_lacks [] = refl
nothing_lacks (t ∷ ts) = nothing_lacks ts

count_none : (n : ℕ) (f : ℕ → Bool) → ((i : ℕ) → i < n → f i ≡ false) → count_below n f ≡ 0
count_none zero f h = refl
count_none (suc n) f h =
    let last : count_below (suc n) f ≡ 0 + count_below n f = ap (λ b. cond b 1 0 + count_below n f) (h n (omega arith)) in
    let rest = count_none n f (λ i k. h i (omega (arith, k))) in
    omega (arith, last, rest)

too_few : (n : ℕ) → 1 ≤ n → nat_le n 0 ≡ false
too_few n h = lt-leb n 0 (omega (arith, h))

pub unshown_settled : (shape : VolumeShape) (memory : HeardMemory) (homes : List Location) (broken : List Bool) (ts : List Transfer) (bid : ℕ) → 1 ≤ shape.data_count
    → ((at : ℕ) → at < shape.total → is_in bid (blobs_of (usable memory.listings homes broken at)) ≡ false) → unsettled_by shape memory homes broken ts bid ≡ false
unshown_settled shape memory homes broken ts bid some none =
    let ls = memory.listings in
    let marked : some_below shape.total (marked_at ls homes broken bid) ≡ false =
    none_counted shape.total (marked_at ls homes broken bid) (λ i k t. let e = (shown_by (usable ls homes broken i) bid (none i k)).1 in cc) in
    let live : count_below shape.total (live_at ls homes broken bid) ≡ 0 = count_none shape.total (live_at ls homes broken bid) (λ i k. (shown_by (usable ls homes broken i) bid (none i k)).0) in
    let due : due_by shape ls homes broken bid ≡ Due.Left =
    ap (λ b. cond b Due.Mark (cond (nat_le shape.data_count (count_below shape.total (live_at ls homes broken bid))) Due.Copy Due.Left)) marked
    ∙ ap (λ n. cond (nat_le shape.data_count n) Due.Copy Due.Left) live ∙ ap (λ b. cond b Due.Copy Due.Left) (too_few shape.data_count some) in
    ap (λ d. any (λ (t : Transfer). not (settled_by memory.moves bid d t.index)) ts) due ∙ nothing_lacks ts
