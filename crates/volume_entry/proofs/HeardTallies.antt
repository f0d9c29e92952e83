-- Counts and tests over what memory tells are those over what was heard.
use Rattle.std.proofs.Common.{◌≡◌, ◌∙◌, sym, ap, refl, ℕ, zero, suc, ◌+◌, ◌<◌, ◌≤◌, Bool, true, false, cond, ◌&&◌, ◌||◌, ◌==◌, List, get_or, arith, Option, None}
use Rattle.std.specs.Prelude.{is_some, not}
use Rattle.unit_id.specs.Lists.{any, is_in, count_below, some_below}
use Rattle.unit_id.proofs.Bools.{or_right}
use Rattle.std.proofs.lemmas.Bool.{eqb-true, eqb-false}
use Rattle.unit_id.specs.Place.{Location}
use Rattle.unit_id.specs.Shown.{Shown}
use Rattle.volume_entry.specs.Manager.{Transfer, HeardMark, Manager, is_swapped, home_at}
use Rattle.volume_entry.specs.ManagerStep.{has_unheard, mark_count}
use Rattle.volume_entry.specs.Benchmark.{is_listed, listing_at, listed_count}
use Rattle.volume_entry.specs.HeardMemory.{HeardMove, ListingsTell, MarksTell, move_of}
use Rattle.volume_entry.specs.HeardCounts.{is_broken, lacks, usable, marks_current}
use Rattle.volume_entry.proofs.AnyTests.{any_same}

pub count_next : (n : ℕ) (f : ℕ → Bool) → count_below (n + 1) f ≡ cond (f n) 1 0 + count_below n f
count_next n f = let e : n + 1 ≡ suc n = omega arith in ap (λ k. count_below k f) e

pub count_hit : (n : ℕ) (f : ℕ → Bool) (count : ℕ) → count ≡ count_below n f → f n ≡ true → count + 1 ≡ count_below (n + 1) f
count_hit n f count e h = let next : count_below (n + 1) f ≡ 1 + count_below n f = count_next n f ∙ ap (λ b. cond b 1 0 + count_below n f) h in omega (arith, e, next)

pub count_miss : (n : ℕ) (f : ℕ → Bool) (count : ℕ) → count ≡ count_below n f → f n ≡ false → count ≡ count_below (n + 1) f
count_miss n f count e h = let next : count_below (n + 1) f ≡ 0 + count_below n f = count_next n f ∙ ap (λ b. cond b 1 0 + count_below n f) h in omega (arith, e, next)

pub count_step : (n : ℕ) (f : ℕ → Bool) (count one : ℕ) (test : Bool) → count ≡ count_below n f → one ≡ cond test 1 0 → test ≡ f n → count + one ≡ count_below (n + 1) f
count_step n f count one test e o t =
    let next : count_below (n + 1) f ≡ one + count_below n f = count_next n f ∙ ap (λ b. cond b 1 0 + count_below n f) (sym t) ∙ ap (λ k. k + count_below n f) (sym o) in omega (arith, e, next)

pub count_most : (n : ℕ) (f : ℕ → Bool) → count_below n f ≤ n
count_most zero f = omega arith
count_most (suc n) f = go (f n) (count_most n f) where
  go : (b : Bool) → count_below n f ≤ n → cond b 1 0 + count_below n f ≤ suc n
  go true h = omega (arith, h)
  go false h = omega (arith, h)

pub count_same : (n : ℕ) (f g : ℕ → Bool) → ((i : ℕ) → i < n → f i ≡ g i) → count_below n f ≡ count_below n g
count_same zero f g h = refl
count_same (suc n) f g h = λ j. cond (h n (omega arith) j) 1 0 + count_same n f g (λ i k. h i (omega arith)) j

listed_where : (b : Bool) (o p : Option Shown) → is_some o ≡ is_some p → is_some (cond b None o) ≡ (not b && is_some p)
listed_where true o p h = refl
listed_where false o p h = h

pub listed_tells : (total : ℕ) (m : Manager) (ls : List (Option Shown)) (homes : List Location) (broken : List Bool) → m.homes ≡ homes → is_swapped m.lock ≡ false → ListingsTell total ls m
    → count_below total (λ i. is_some (usable ls homes broken i)) ≡ listed_count total m.homes (is_broken broken) m.heard.listings
listed_tells total m ls homes broken e s told =
    ap (λ hs. count_below total (λ i. is_some (usable ls hs broken i))) (sym e)
    ∙ count_same total (λ i. is_some (usable ls m.homes broken i)) (is_listed m.homes (is_broken broken) m.heard.listings)
    (λ i k. listed_where (is_broken broken (home_at m.homes i).disk) (get_or ls i None) (listing_at m.homes m.heard.listings i) (told.shows s i k).heard)

pub marks_tell : (total : ℕ) (m : Manager) (marks : List HeardMark) (homes : List Location) (bid : ℕ) → m.homes ≡ homes → MarksTell marks m.marks
    → count_below total (marks_current marks homes bid) ≡ mark_count total m.homes m.marks bid
marks_tell total m marks homes bid e told =
    ap (λ hs. count_below total (marks_current marks hs bid)) (sym e)
    ∙ count_same total (marks_current marks m.homes bid) (marks_current m.marks m.homes bid) (λ i k. told bid i (home_at m.homes i).epoch)

pub lacks_tells : (look : Option HeardMove → Bool) (ms : List HeardMove) (heard : List ℕ) (broken : List Bool) (ts : List Transfer) → ((i : ℕ) → look (move_of ms i) ≡ is_in i heard)
    → any (lacks look ms broken) ts ≡ has_unheard (is_broken broken) ts heard
lacks_tells look ms heard broken ts h =
    any_same (lacks look ms broken) (λ (t : Transfer). not (is_in t.index heard) && not (is_broken broken t.old.disk)) ts
    (λ t. ap (λ b. not b && not (is_broken broken t.old.disk)) (h t.index))

pub some_next : (n : ℕ) (f : ℕ → Bool) → f n ≡ false → some_below n f ≡ false → some_below (n + 1) f ≡ false
some_next n f h before = let e : n + 1 ≡ suc n = omega arith in ap (λ k. some_below k f) e ∙ ap (λ b. b || some_below n f) h ∙ before

pub some_hit : (n : ℕ) (f : ℕ → Bool) (i : ℕ) → i < n → f i ≡ true → some_below n f ≡ true
some_hit zero f i h t = absurd (omega (arith, h))
some_hit (suc n) f i h t = go (i == n) refl (some_hit n f i) where
  go : (same : Bool) → (i == n) ≡ same → (i < n → f i ≡ true → some_below n f ≡ true) → (f n || some_below n f) ≡ true
  go true e rest = ap (λ b. b || some_below n f) (ap f (sym (eqb-true i n e)) ∙ t)
  go false e rest = let other = eqb-false i n e in or_right (f n) (some_below n f) (rest (omega (arith, h, other)) t)
