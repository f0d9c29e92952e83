-- Lemmas on listings in order, and on the errands that come from them.
use Rattle.std.proofs.Common.{◌≡◌, ℕ, zero, suc, ◌+◌, ◌<◌, ◌≤◌, inl, inr, Bool, true, false, cond, not, ◌&&◌, ◌||◌, ◌==◌, List, [], ◌∷◌, ◌++◌, length, map, filter, take, drop, get_or, append_assoc, refl, sym, ◌∙◌, ap, subst, arith}
use Rattle.std.specs.Prelude.{nat_le, Result, Ok, Err, is_ok}
use Rattle.std.specs.List.{list_any, range_with_len, AllByRecursion, Contains, dedup}
use Rattle.std.specs.List.Sorted.{IsNonDecreasing, IsBinarySearchResult, IsPermutation, IsStrictlySortedBy, IsSorted}
use Rattle.std.specs.Ordering.{nat_cmp}
use Rattle.std.specs.declared.cmp.Ordering.TheVariants.{Less}
use Rattle.std.proofs.lemmas.Bool.{cases_eq, cases_lt, eqb-true, eq-eqb, leb-true, le-leb, lt-leb}
use Rattle.std.proofs.lemmas.List.{take_more, take_all, drop_all, at_drop_more, append-nil}
use Rattle.std.proofs.lemmas.List.Sorted.{list_any-IsPermutation, searched}
use Rattle.std.proofs.lemmas.Cmp.{ranked}
use Rattle.std.proofs.lemmas.List.Kept.{Contains-dedup_nat, Contains-from_dedup}
use Rattle.std.proofs.lemmas.Map.Keys.{sorted_from_strictly_increasing, sorted_head, sorted_tail, IsStrictlyIncreasing-dedup}
use Rattle.unit_id.specs.Lists.{is_in}
use Rattle.unit_id.proofs.Bools.{and_left, and_right, or_left, or_right, or_cases, or_none, not_so, either, contrary}
use Rattle.code_mode.specs.VolumeShape.{last_time}
use Rattle.code_mode.specs.Mode.{data_count}
use Rattle.code_mode.proofs.Numbers.{sound_numbers}
use Rattle.volume_entry.specs.Manager.{IsBid}
use Rattle.volume_world.specs.Way.{Origin}
use Rattle.migrate_task.specs.declared.work.Journey.{Journey}
use Rattle.migrate_task.specs.declared.listing.Listing.{Listing}
use Rattle.migrate_task.specs.declared.ordered.Ordered.{Ordered}
use Rattle.migrate_task.specs.declared.copying.Errand.{Errand}
use Rattle.migrate_task.specs.declared.copying.Due.{Due}
use Rattle.migrate_task.specs.declared.copying.Due.TheVariants as dues
use Rattle.migrate_task.specs.Work.{Work, live_count, is_marked_in, due_of, has_due, errands_of, errands_over, errands_up_to, errands}
use Rattle.migrate_task.specs.Merging.{IsOrderOf, AreOrderOf, is_number, all_shown, AreShown}
use Rattle.migrate_task.specs.TaskParts.{IsWorkOn, AreJourneys}
use Rattle.migrate_task.specs.GatherParts.{IsDue, AreErrands}
use Rattle.migrate_task.proofs.WorkLemmas.{any_default}

-- ---- membership

pub same_any : (b : ℕ) (xs : List ℕ) → list_any (λ m. b == m) xs ≡ is_in b xs
same_any b [] = refl
same_any b (x ∷ xs) = ap (λ t. (b == x) || t) (same_any b xs)

-- a list in another order has the same numbers
pub in_moved : (b : ℕ) (xs ys : List ℕ) → IsPermutation xs ys → is_in b ys ≡ is_in b xs
in_moved b xs ys h = sym (same_any b ys) ∙ sym (list_any-IsPermutation (λ m. b == m) xs ys h) ∙ same_any b xs

in_append : (b : ℕ) (xs ys : List ℕ) → is_in b (xs ++ ys) ≡ (is_in b xs || is_in b ys)
in_append b [] ys = refl
in_append b (x ∷ xs) ys = elim (b == x) as (λ t. (t || is_in b (xs ++ ys)) ≡ ((t || is_in b xs) || is_in b ys)) [ true ↦ refl | false ↦ in_append b xs ys ]

in_at : (b : ℕ) (xs : List ℕ) → Contains xs b → is_in b xs ≡ true
in_at b [] h = absurd (omega (arith, h.1))
in_at b (x ∷ xs) (zero, below, is) = or_left (b == x) (is_in b xs) (eq-eqb b x (sym is))
in_at b (x ∷ xs) (suc k, below, is) = or_right (b == x) (is_in b xs) (in_at b xs (k, omega arith, is))

at_in : (b : ℕ) (xs : List ℕ) → is_in b xs ≡ true → Contains xs b
at_in b [] h = cc
at_in b (x ∷ xs) h = elim (or_cases (b == x) (is_in b xs) h) [
  | inl here ↦ (0, omega arith, sym (eqb-true b x here))
  | inr there ↦ let rest = at_in b xs there in (suc rest.0, omega (arith, rest.1), rest.2)
]

both_ways : (a b : Bool) → (a ≡ true → b ≡ true) → (b ≡ true → a ≡ true) → a ≡ b
both_ways true true f g = refl
both_ways false false f g = refl
both_ways true false f g = sym (f refl)
both_ways false true f g = g refl

-- a list without what stands twice has the same numbers
pub in_dedup : (b : ℕ) (xs : List ℕ) → is_in b (dedup (λ m n. m == n) xs) ≡ is_in b xs
in_dedup b xs = both_ways (is_in b (dedup (λ m n. m == n) xs)) (is_in b xs)
    (λ h. in_at b xs (Contains-from_dedup (λ m n. m == n) xs b (at_in b (dedup (λ m n. m == n) xs) h)))
    (λ h. in_at b (dedup (λ m n. m == n) xs) (Contains-dedup_nat xs b (at_in b xs h)))

in_filter : (test : ℕ → Bool) (b : ℕ) (xs : List ℕ) → test b ≡ true → is_in b (filter test xs) ≡ is_in b xs
in_filter test b [] h = refl
in_filter test b (x ∷ xs) h = go (test x) (b == x) refl refl (in_filter test b xs h)
  where
    go : (t u : Bool) → test x ≡ t → b == x ≡ u → is_in b (filter test xs) ≡ is_in b xs → is_in b (cond t (x ∷ filter test xs) (filter test xs)) ≡ (u || is_in b xs)
    go true true e f rest = ap (λ v. v || is_in b (filter test xs)) f
    go true false e f rest = ap (λ v. v || is_in b (filter test xs)) f ∙ rest
    go false true e f rest = absurd (contrary (test x) (ap test (sym (eqb-true b x f)) ∙ h) e)
    go false false e f rest = rest

passes_filter : (test : ℕ → Bool) (b : ℕ) (xs : List ℕ) → is_in b (filter test xs) ≡ true → test b ≡ true
passes_filter test b [] h = cc
passes_filter test b (x ∷ xs) h = go (test x) refl (passes_filter test b xs) h
  where
    go : (t : Bool) → test x ≡ t → (is_in b (filter test xs) ≡ true → test b ≡ true) → is_in b (cond t (x ∷ filter test xs) (filter test xs)) ≡ true → test b ≡ true
    go true e rest k = elim (or_cases (b == x) (is_in b (filter test xs)) k) [ inl here ↦ ap test (eqb-true b x here) ∙ e | inr there ↦ rest there ]
    go false e rest k = rest k

-- ---- listings in order say the same

pub marked_same : (ls : List Listing) (os : List Ordered) (b : ℕ) → AreOrderOf ls os → list_any (λ (o : Ordered). is_in b o.marked) os ≡ is_marked_in ls b
marked_same [] [] b h = refl
marked_same (l ∷ ls) (o ∷ os) b h = λ i. h.0.marked b i || marked_same ls os b h.1 i
marked_same [] (o ∷ os) b h = absurd h
marked_same (l ∷ ls) [] b h = absurd h

pub live_same : (ls : List Listing) (os : List Ordered) (b : ℕ) → AreOrderOf ls os → length (filter (λ (o : Ordered). is_in b o.live) os) ≡ live_count ls b
live_same [] [] b h = refl
live_same (l ∷ ls) (o ∷ os) b h = go (is_in b o.live) (is_in b l.live) (h.0.live b) (live_same ls os b h.1)
  where
    go : (t u : Bool) → t ≡ u → length (filter (λ (o : Ordered). is_in b o.live) os) ≡ live_count ls b
        → length (cond t (o ∷ filter (λ (o : Ordered). is_in b o.live) os) (filter (λ (o : Ordered). is_in b o.live) os)) ≡ length (cond u (l ∷ filter (λ (l : Listing). is_in b l.live) ls) (filter (λ (l : Listing). is_in b l.live) ls))
    go true true e k = ap suc k
    go false false e k = k
    go true false e k = cc
    go false true e k = cc
live_same [] (o ∷ os) b h = absurd h
live_same (l ∷ ls) [] b h = absurd h

pub mark_same : (ls : List Listing) (os : List Ordered) (b index : ℕ) → AreOrderOf ls os → list_any (λ (o : Ordered). (o.index == index) && is_in b o.marked) os ≡ has_due ls dues.Mark b index
mark_same [] [] b index h = refl
mark_same (l ∷ ls) (o ∷ os) b index h = λ i. ((h.0.index i == index) && h.0.marked b i) || mark_same ls os b index h.1 i
mark_same [] (o ∷ os) b index h = absurd h
mark_same (l ∷ ls) [] b index h = absurd h

pub row_same : (ls : List Listing) (os : List Ordered) (b index : ℕ) → AreOrderOf ls os → list_any (λ (o : Ordered). (o.index == index) && (is_in b o.live || is_in b o.marked)) os ≡ has_due ls dues.Copy b index
row_same [] [] b index h = refl
row_same (l ∷ ls) (o ∷ os) b index h = λ i. ((h.0.index i == index) && (h.0.live b i || h.0.marked b i)) || row_same ls os b index h.1 i
row_same [] (o ∷ os) b index h = absurd h
row_same (l ∷ ls) [] b index h = absurd h

-- one listing more
pub order_more : (ls : List Listing) (os : List Ordered) (l : Listing) (o : Ordered) → AreOrderOf ls os → IsOrderOf l o → AreOrderOf (ls ++ l ∷ []) (os ++ o ∷ [])
order_more [] [] l o h k = (k, tt)
order_more (x ∷ ls) (y ∷ os) l o h k = (h.0, order_more ls os l o h.1 k)
order_more [] (y ∷ os) l o h k = absurd h
order_more (x ∷ ls) [] l o h k = absurd h

-- ---- what no listing shows has no errand

no_rows : (b : ℕ) (ls : List Listing) → is_number b ≡ true → is_in b (all_shown ls) ≡ false → (is_marked_in ls b ≡ false) × (live_count ls b ≡ 0)
no_rows b [] h out = (refl, refl)
no_rows b (l ∷ ls) h out =
    let first = or_none _ _ (sym (in_append b (filter is_number l.live) (filter is_number l.marked ++ all_shown ls)) ∙ out) in
    let second = or_none _ _ (sym (in_append b (filter is_number l.marked) (all_shown ls)) ∙ first.1) in
    let live : is_in b l.live ≡ false = sym (in_filter is_number b l.live h) ∙ first.0 in
    let marked : is_in b l.marked ≡ false = sym (in_filter is_number b l.marked h) ∙ second.0 in
    let rest = no_rows b ls h second.1 in
    ((λ i. marked i || rest.0 i), ap (λ t. length (cond t (l ∷ filter (λ (l : Listing). is_in b l.live) ls) (filter (λ (l : Listing). is_in b l.live) ls))) live ∙ rest.1)

left_alone : (b : ℕ) (dests : List Listing) (js : List Journey) → errands_of b dues.Left dests js ≡ []
left_alone b dests [] = refl
left_alone b dests (j ∷ js) = left_alone b dests js

few_enough : (n m : ℕ) → 0 < n → m ≡ 0 → nat_le n m ≡ false
few_enough n m h e = lt-leb n m (omega arith)

not_due : (n : ℕ) (ls : List Listing) (b : ℕ) → 0 < n → is_number b ≡ true → is_in b (all_shown ls) ≡ false → due_of n ls b ≡ dues.Left
not_due n ls b some h out =
    let none = no_rows b ls h out in
    ap (λ t. cond t dues.Mark (cond (nat_le n (live_count ls b)) dues.Copy dues.Left)) none.0 ∙ ap (λ t. cond t dues.Copy dues.Left) (few_enough n (live_count ls b) some none.1)

no_errand : (work : Work) (dests heard : List Listing) (b : ℕ) → is_number b ≡ true → is_in b (all_shown heard) ≡ false → errands_of b (due_of (data_count work.mode) heard b) dests work.journeys ≡ []
no_errand work dests heard b h out =
    ap (λ (due : Due). errands_of b due dests work.journeys) (not_due (data_count work.mode) heard b (omega (arith, (sound_numbers work.mode).some_data)) h out) ∙ left_alone b dests work.journeys

numbers : (b : ℕ) (ls : List Listing) → is_in b (all_shown ls) ≡ true → is_number b ≡ true
numbers b [] h = cc
numbers b (l ∷ ls) h = elim (or_cases (is_in b (filter is_number l.live)) (is_in b (filter is_number l.marked ++ all_shown ls)) (sym (in_append b (filter is_number l.live) (filter is_number l.marked ++ all_shown ls)) ∙ h)) [
  | inl live ↦ passes_filter is_number b l.live live
  | inr other ↦ elim (or_cases (is_in b (filter is_number l.marked)) (is_in b (all_shown ls)) (sym (in_append b (filter is_number l.marked) (all_shown ls)) ∙ other)) [
    | inl marked ↦ passes_filter is_number b l.marked marked
    | inr rest ↦ numbers b ls rest
  ]
]

-- ---- all numbers, or those that are shown

-- the numbers ascend, from one on and below another
abbrev AreWithin : ℕ → ℕ → List ℕ → Type 0
AreWithin low high [] = Unit {0}
AreWithin low high (x ∷ xs) = (low ≤ x) × (x < high) × AreWithin (suc x) high xs

out_below : (b low high : ℕ) (xs : List ℕ) → b < low → AreWithin low high xs → is_in b xs ≡ false
out_below b low high [] below h = refl
out_below b low high (x ∷ xs) below h =
    let first = h.0 in
    let rest = out_below b (suc x) high xs (omega arith) h.2 in
    elim (either (b == x)) [
      | inl same ↦ let e = eqb-true b x same in absurd (omega arith)
      | inr apart ↦ λ i. apart i || rest i
    ]

below_by : (x y : ℕ) → nat_cmp x y ≡ Less → x < y
below_by x y h = ranked x y Less (sym h)

all_above : (x b : ℕ) (ys : List ℕ) → AllByRecursion (λ y. nat_cmp x y ≡ Less) ys → is_in b ys ≡ true → x < b
all_above x b [] h k = cc
all_above x b (y ∷ ys) h k = elim (or_cases (b == y) (is_in b ys) k) [
  | inl here ↦ let e = eqb-true b y here in let less = below_by x y h.0 in omega arith
  | inr there ↦ all_above x b ys h.1 there
]

are_within : (low high : ℕ) (xs : List ℕ) → IsStrictlySortedBy nat_cmp xs → ((b : ℕ) → is_in b xs ≡ true → (low ≤ b) × (b < high)) → AreWithin low high xs
are_within low high [] s h = tt
are_within low high (x ∷ xs) s h =
    let first = h x (or_left (x == x) (is_in x xs) (eq-eqb x x refl)) in
    let above = sorted_head nat_cmp x xs s in
    (first.0, first.1, are_within (suc x) high xs (sorted_tail nat_cmp x xs s) (λ b i. (all_above x b xs above i, (h b (or_right (b == x) (is_in b xs) i)).1)))

abbrev OfBlob : Work → List Listing → List Listing → ℕ → List Errand
OfBlob work dests heard b = errands_of b (due_of (data_count work.mode) heard b) dests work.journeys

merged : (work : Work) (dests heard : List Listing) (n low high : ℕ) (bids : List ℕ) → low + n ≡ high → AreWithin low high bids
    → ((b : ℕ) → low ≤ b → b < high → is_in b bids ≡ false → OfBlob work dests heard b ≡ [])
    → errands_over work dests heard (range_with_len low n) ≡ errands_over work dests heard bids
merged work dests heard zero low high [] e h none = refl
merged work dests heard zero low high (b ∷ bids) e h none = let first = h.0 in let last = h.1 in absurd (omega arith)
merged work dests heard (suc n) low high [] e h none =
    (λ i. none low (omega arith) (omega arith) refl i ++ errands_over work dests heard (range_with_len (low + 1) n))
    ∙ merged work dests heard n (low + 1) high [] (omega arith) tt (λ b above below out. none b (omega arith) below out)
merged work dests heard (suc n) low high (b ∷ bids) e h none = elim (cases_eq low b) [
  | inl same ↦
      ap (λ x. OfBlob work dests heard x ++ errands_over work dests heard (range_with_len (low + 1) n)) same
      ∙ ap (λ xs. OfBlob work dests heard b ++ xs) (merged work dests heard n (low + 1) high bids (omega arith) (subst (λ k. AreWithin k high bids) (omega arith) h.2)
      (λ c above below out. none c (omega arith) below (later c same above out)))
  | inr apart ↦
      let first = h.0 in
      let before : low < b = omega arith in
      (λ i. none low (omega arith) (omega arith) (out_below low b high (b ∷ bids) before (omega arith, h.1, h.2)) i ++ errands_over work dests heard (range_with_len (low + 1) n))
      ∙ merged work dests heard n (low + 1) high (b ∷ bids) (omega arith) (omega arith, h.1, h.2) (λ c above below out. none c (omega arith) below out)
]
  where
    later : (c : ℕ) → low ≡ b → low + 1 ≤ c → is_in c bids ≡ false → is_in c (b ∷ bids) ≡ false
    later c same above out = elim (either (c == b)) [
      | inl here ↦ let is = eqb-true c b here in absurd (omega arith)
      | inr there ↦ λ i. there i || out i
    ]

up_to : (count : ℕ) (work : Work) (dests heard : List Listing) (bids : List ℕ) → AreShown heard bids → ((b : ℕ) → is_number b ≡ true → (1 ≤ b) × (b ≤ count)) → ((b : ℕ) → 1 ≤ b → b ≤ count → is_number b ≡ true)
    → errands_up_to count work dests heard ≡ errands_over work dests heard bids
unfolding errands_up_to
up_to count work dests heard bids shown within number =
    merged work dests heard count 1 (1 + count) bids refl
    (are_within 1 (1 + count) bids (sorted_from_strictly_increasing bids shown.rises) (λ b i. let at = within b (numbers b heard (sym (shown.same b) ∙ i)) in (at.0, omega (arith, at.1))))
    (λ b above below out. no_errand work dests heard b (number b above (omega arith)) (sym (shown.same b) ∙ out))

-- the errands of the blobs that are shown are all
pub errands_shown : (work : Work) (dests heard : List Listing) (bids : List ℕ) → AreShown heard bids → errands work dests heard ≡ errands_over work dests heard bids
unfolding errands
errands_shown work dests heard bids shown =
    up_to last_time work dests heard bids shown (λ b h. (leb-true 1 b (and_left (nat_le 1 b) (nat_le b last_time) h), leb-true b last_time (and_right (nat_le 1 b) (nat_le b last_time) h)))
    (λ b above below. λ i. le-leb 1 b above i && le-leb b last_time below i)

-- ---- loops

pub errands_split : (b : ℕ) (due : Due) (dests : List Listing) (j : Journey) (js : List Journey) → errands_of b due dests (j ∷ js) ≡ errands_of b due dests (j ∷ []) ++ errands_of b due dests js
errands_split b due dests j js = go (not (has_due dests due b j.index))
  where
    go : (t : Bool) → map (λ (j : Journey). record { bid = b; due = due; journey = j }) (cond t (j ∷ filter (λ (j : Journey). not (has_due dests due b j.index)) js) (filter (λ (j : Journey). not (has_due dests due b j.index)) js))
        ≡ map (λ (j : Journey). record { bid = b; due = due; journey = j }) (cond t (j ∷ []) []) ++ errands_of b due dests js
    go true = refl
    go false = refl

-- what a search in order finds is in the list
pub found_is : (xs : List ℕ) (x : ℕ) (r : Result ℕ ℕ) → IsNonDecreasing xs → IsBinarySearchResult (λ y. nat_cmp y x) xs r → is_ok r ≡ is_in x xs
found_is xs x (Ok i) up h =
    let at = searched xs x (Ok i) h (λ j k a b. up j k 0 a b) in
    sym (in_at x xs (i, at.0, any_default xs i x 0 at.0 ∙ at.1))
found_is xs x (Err i) up h =
    let at = searched xs x (Err i) h (λ j k a b. up j k 0 a b) in
    sym (not_so (is_in x xs) (λ there. out at.1 at.2 (at_in x xs there)))
  where
    out : ((k : ℕ) → k < i → get_or xs k 0 < x) → ((k : ℕ) → i ≤ k → k < length xs → x < get_or xs k 0) → Contains xs x → ⊥
    out low high (k, below, is) =
        let same = any_default xs k 0 x below ∙ is in
        elim (cases_lt k i) [
          | inl before ↦ let less = low k before in omega arith
          | inr behind ↦ let more = high k behind below in omega arith
        ]

-- one listing more is put in order, and the last one was
pub order_next : (ls : List Listing) (i : ℕ) (l : Listing) (os ps : List Ordered) (o : Ordered) → i < length ls → l ≡ get_or ls i l → AreOrderOf (take i ls) os → IsOrderOf l o → ps ≡ os ++ o ∷ []
    → AreOrderOf (take (i + 1) ls) ps
order_next ls i l os ps o below is h k more =
    subst (λ xs. AreOrderOf xs ps) (sym (take_more ls i l below ∙ ap (λ x. take i ls ++ x ∷ []) (sym is)))
    (subst (AreOrderOf (take i ls ++ l ∷ [])) (sym more) (order_more (take i ls) os l o h k))

pub order_done : (ls : List Listing) (i : ℕ) (os : List Ordered) → length ls ≤ i → AreOrderOf (take i ls) os → AreOrderOf ls os
order_done ls i os over h = subst (λ xs. AreOrderOf xs os) (take_all i ls over) h

-- what a loop has made of a list, one element on: f makes a list of elements, which is joined of each
pub joined_next : {X Y : Type 0} (f : List X → List Y) → ((x : X) (xs : List X) → f (x ∷ xs) ≡ f (x ∷ []) ++ f xs) → (xs : List X) (i : ℕ) (x : X) (old new : List Y) (all : List Y) → i < length xs → x ≡ get_or xs i x
    → old ++ f (drop i xs) ≡ all → new ≡ old ++ f (x ∷ []) → new ++ f (drop (i + 1) xs) ≡ all
joined_next f splits xs i x old new all below is h more =
    ap (λ ys. ys ++ f (drop (i + 1) xs)) more ∙ append_assoc old (f (x ∷ [])) (f (drop (i + 1) xs)) ∙ ap (λ ys. old ++ ys) (sym (splits x (drop (i + 1) xs)))
    ∙ ap (λ y. old ++ f (y ∷ drop (i + 1) xs)) is ∙ ap (λ ys. old ++ ys) (sym (at_drop_more f xs i x below)) ∙ h

pub joined_all : {X Y : Type 0} (f : List X → List Y) → f [] ≡ [] → (xs : List X) (i : ℕ) (new all : List Y) → length xs ≤ i → new ++ f (drop i xs) ≡ all → new ≡ all
joined_all f none xs i new all over h = sym (append-nil new) ∙ ap (λ ys. new ++ ys) (sym none) ∙ ap (λ ys. new ++ f ys) (sym (drop_all i xs over)) ∙ h

pub over_split : (work : Work) (ds us : List Listing) (b : ℕ) (bs : List ℕ) → errands_over work ds us (b ∷ bs) ≡ errands_over work ds us (b ∷ []) ++ errands_over work ds us bs
over_split work ds us b bs = ap (λ xs. xs ++ errands_over work ds us bs) (sym (append-nil (OfBlob work ds us b)))

pub filter_split : (test : ℕ → Bool) (x : ℕ) (xs : List ℕ) → filter test (x ∷ xs) ≡ filter test (x ∷ []) ++ filter test xs
filter_split test x xs = elim (test x) as (λ t. cond t (x ∷ filter test xs) (filter test xs) ≡ cond t (x ∷ []) [] ++ filter test xs) [ true ↦ refl | false ↦ refl ]

pub shown_split : (l : Listing) (ls : List Listing) → all_shown (l ∷ ls) ≡ all_shown (l ∷ []) ++ all_shown ls
shown_split l ls =
    let live = filter is_number l.live in
    let marked = filter is_number l.marked in
    sym (append_assoc live marked (all_shown ls)) ∙ ap (λ xs. (live ++ xs) ++ all_shown ls) (sym (append-nil marked))

-- all that is shown, once and in order
pub are_shown : (ls : List Listing) (all sorted bids : List ℕ) → all ≡ all_shown ls → IsPermutation all sorted → IsSorted nat_cmp sorted → bids ≡ dedup (λ m n. m == n) sorted → AreShown ls bids
are_shown ls all sorted bids e moved up is =
    subst (AreShown ls) (sym is) (record { rises = IsStrictlyIncreasing-dedup sorted up; same = λ bid. in_dedup bid sorted ∙ in_moved bid all sorted moved ∙ ap (is_in bid) e })

-- ---- what stands behind an errand

each_are : (origin : Origin) (b : ℕ) (due : Due) (ds : List Listing) (js : List Journey) → IsBid b → IsDue due → AreJourneys origin js → AreErrands origin (errands_of b due ds js)
each_are origin b due ds [] number is h = tt
each_are origin b due ds (j ∷ js) number is h = go (not (has_due ds due b j.index)) (each_are origin b due ds js number is h.1)
  where
    go : (t : Bool) → AreErrands origin (errands_of b due ds js)
        → AreErrands origin (map (λ (j : Journey). record { bid = b; due = due; journey = j }) (cond t (j ∷ filter (λ (j : Journey). not (has_due ds due b j.index)) js) (filter (λ (j : Journey). not (has_due ds due b j.index)) js)))
    go true rest = (record { number = number; due = is; journey = h.0 }, rest)
    go false rest = rest

due_are : (origin : Origin) (b : ℕ) (due : Due) (ds : List Listing) (js : List Journey) → IsBid b → AreJourneys origin js → AreErrands origin (errands_of b due ds js)
due_are origin b dues.Mark ds js number h = each_are origin b dues.Mark ds js number tt h
due_are origin b dues.Copy ds js number h = each_are origin b dues.Copy ds js number tt h
due_are origin b dues.Left ds js number h = subst (AreErrands origin) (sym (left_alone b ds js)) tt

errands_append : (origin : Origin) (es fs : List Errand) → AreErrands origin es → AreErrands origin fs → AreErrands origin (es ++ fs)
errands_append origin [] fs h k = k
errands_append origin (e ∷ es) fs h k = (h.0, errands_append origin es fs h.1 k)

over_are : (origin : Origin) (work : Work) (ds us : List Listing) (bids : List ℕ) → AreJourneys origin work.journeys → ((b : ℕ) → is_in b bids ≡ true → IsBid b) → AreErrands origin (errands_over work ds us bids)
over_are origin work ds us [] h number = tt
over_are origin work ds us (b ∷ bids) h number =
    errands_append origin (OfBlob work ds us b) (errands_over work ds us bids)
    (due_are origin b (due_of (data_count work.mode) us b) ds work.journeys (number b (in_at b (b ∷ bids) (0, omega arith, refl))) h)
    (over_are origin work ds us bids h (λ c i. number c (or_right (c == b) (is_in c bids) i)))

-- each errand is of a blob that there can be, and of a journey of the task
pub errands_are : (origin : Origin) (work : Work) (ds us : List Listing) (bids : List ℕ) (all : List Errand) → IsWorkOn origin work → AreShown us bids → all ≡ errands_over work ds us bids → AreErrands origin all
errands_are origin work ds us bids all on shown is =
    subst (AreErrands origin) (sym is) (over_are origin work ds us bids on.journeys
    (λ b i.
    let h = numbers b us (sym (shown.same b) ∙ i) in
    record { first = leb-true 1 b (and_left (nat_le 1 b) (nat_le b last_time) h); last = leb-true b last_time (and_right (nat_le 1 b) (nat_le b last_time) h) }))

-- ---- what a blob gets

pub due_mark : (n : ℕ) (ls : List Listing) (os : List Ordered) (b : ℕ) → AreOrderOf ls os → list_any (λ (o : Ordered). is_in b o.marked) os ≡ true → dues.Mark ≡ due_of n ls b
due_mark n ls os b h e = sym (ap (λ t. cond t dues.Mark (cond (nat_le n (live_count ls b)) dues.Copy dues.Left)) (sym (marked_same ls os b h) ∙ e))

pub due_copy : (n : ℕ) (ls : List Listing) (os : List Ordered) (b : ℕ) → AreOrderOf ls os → list_any (λ (o : Ordered). is_in b o.marked) os ≡ false → n ≤ length (filter (λ (o : Ordered). is_in b o.live) os)
    → dues.Copy ≡ due_of n ls b
due_copy n ls os b h e more =
    let count = live_same ls os b h in
    sym (ap (λ t. cond t dues.Mark (cond (nat_le n (live_count ls b)) dues.Copy dues.Left)) (sym (marked_same ls os b h) ∙ e) ∙ ap (λ t. cond t dues.Copy dues.Left) (le-leb n (live_count ls b) (omega arith)))

pub due_left : (n : ℕ) (ls : List Listing) (os : List Ordered) (b : ℕ) → AreOrderOf ls os → list_any (λ (o : Ordered). is_in b o.marked) os ≡ false → length (filter (λ (o : Ordered). is_in b o.live) os) < n
    → dues.Left ≡ due_of n ls b
due_left n ls os b h e less =
    let count = live_same ls os b h in
    sym (ap (λ t. cond t dues.Mark (cond (nat_le n (live_count ls b)) dues.Copy dues.Left)) (sym (marked_same ls os b h) ∙ e) ∙ ap (λ t. cond t dues.Copy dues.Left) (lt-leb n (live_count ls b) (omega arith)))

-- ---- the loops' steps

pub shown_one : (l : Listing) (live marked old mid new : List ℕ) → live ≡ l.live → marked ≡ l.marked → mid ≡ old ++ filter is_number live → new ≡ mid ++ filter is_number marked → new ≡ old ++ all_shown (l ∷ [])
shown_one l live marked old mid new el em h k =
    k ∙ ap (λ xs. xs ++ filter is_number marked) h ∙ append_assoc old (filter is_number live) (filter is_number marked) ∙ (λ i. old ++ (filter is_number (el i) ++ filter is_number (em i)))
    ∙ ap (λ xs. old ++ (filter is_number l.live ++ xs)) (sym (append-nil (filter is_number l.marked)))

pub over_one : (work : Work) (ds us : List Listing) (b : ℕ) (due : Due) (js : List Journey) (old new : List Errand) → due ≡ due_of (data_count work.mode) us b → js ≡ work.journeys → new ≡ old ++ errands_of b due ds js
    → new ≡ old ++ errands_over work ds us (b ∷ [])
over_one work ds us b due js old new e is h =
    h ∙ (λ i. old ++ errands_of b (e i) ds (is i)) ∙ ap (λ xs. old ++ xs) (sym (append-nil (OfBlob work ds us b)))
