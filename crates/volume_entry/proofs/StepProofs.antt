-- What steps show when none of their refusals holds.
use Rattle.std.proofs.Common.{◌≡◌, ℕ, ◌<◌, ◌≤◌, ◌⊎◌, inl, inr, Bool, true, false, List, [], Option, Some, None, refl, sym, subst, arith, is_none}
use Rattle.std.specs.Prelude.{◌&&◌, ◌==◌, not, is_some}
use Rattle.std.proofs.lemmas.Bool.{eqb-true, ltb-false}
use Rattle.unit_id.specs.Lists.{IsIn, is_in, count_below}
use Rattle.unit_id.specs.Request.{Request, Answer}
use Rattle.unit_id.specs.declared.targets.Target.{Target}
use Rattle.unit_id.proofs.Bools.{and_left, and_right, or_cases}
use Rattle.unit_id.proofs.Membership.{any_gives, none_passes}
use Rattle.unit_id.proofs.Tables.{all_fail}
use Rattle.code_mode.specs.VolumeShape.{VolumeShape}
use Rattle.volume_entry.specs.Manager.{Transfer, HeardRow, HeardMark, Grant, Manager, home_at, greatest_at, transfers_of, is_swapped, has_number, Lock}
use Rattle.volume_entry.specs.Benchmark.{Due, benchmark_of, was_heard, is_settled}
use Rattle.volume_entry.specs.ManagerStep.{first_held, grants_of, has_unheard, is_mark_heard, lock_tests, lock_refusal, swap_tests, swap_refusal, unlock_tests, unlock_refusal, commit_tests, commit_refusal, AreAllSettled, hear}
use Rattle.volume_entry.specs.Laws.{LockShows, SwapShows, IsHeardThere, IsMarkedNow, StepsShow}
use Rattle.volume_entry.proofs.Locks.{no_lock}
use Rattle.volume_entry.proofs.Grants.{none_found, holder_free, held_free, held_apart, grant_gives}
use Rattle.unit_id.specs.Place.{Place}
use Rattle.unit_id.specs.Shown.{Shown}

-- what isn't not so is so
pub false_not : (a : Bool) → not a ≡ false → a ≡ true
false_not true h = refl
false_not false h = cc

-- an old unit is heard of, or its disk is broken
heard_or_broken : (broken : ℕ → Bool) (transfers : List Transfer) (heard : List ℕ) → has_unheard broken transfers heard ≡ false → (t : Transfer) → IsIn t transfers
    → (is_in t.index heard ≡ true) ⊎ (broken t.old.disk ≡ true)
heard_or_broken broken transfers heard h t i = go (is_in t.index heard) (broken t.old.disk) refl refl (none_passes (λ u. not (is_in u.index heard) && not (broken u.old.disk)) transfers h t i) where
  go : (a b : Bool) → is_in t.index heard ≡ a → broken t.old.disk ≡ b → not a && not b ≡ false → (is_in t.index heard ≡ true) ⊎ (broken t.old.disk ≡ true)
  go true b e f x = inl e
  go false true e f x = inr f
  go false false e f x = cc

lock_shows : (broken : ℕ → Bool) (time : ℕ) (targets : List Target) (m : Manager) → lock_refusal broken time targets m ≡ None → LockShows broken time targets m
lock_shows broken time targets m h =
    let fails = all_fail (lock_tests broken time targets m) h in
    let none = none_found (first_held m.homes [] targets) fails.1.1.1.0 in
    record {
      unlocked = no_lock m.lock fails.0;
      over = ltb-false time m.lease_end fails.1.0;
      unbroken = none_passes (λ t. broken t.disk) targets fails.1.1.0;
      free = λ t i. holder_free 0 m.homes t.disk (held_free m.homes [] targets none t i);
      apart = held_apart m.homes [] targets none;
    }

epochs_new : (greatest : List ℕ) (targets : List Target) (grant : Grant) → IsIn grant (grants_of greatest targets) → greatest_at greatest grant.index < grant.dest.epoch
epochs_new greatest targets grant i =
    let found = grant_gives greatest targets grant i in
    subst (λ (g : Grant). greatest_at greatest g.index < g.dest.epoch) (sym found.2) (omega arith)

swap_shows : (shape : VolumeShape) (broken : ℕ → Bool) (task : ℕ) (m : Manager) → swap_refusal shape broken task m ≡ None → SwapShows shape broken m
swap_shows shape broken task m h =
    let fails = all_fail (swap_tests shape broken task m) h in
    record {
      locked = locked m.lock fails.0;
      unswapped = fails.1.1.0;
      unbroken = none_passes (λ t. broken t.dest.disk) (transfers_of m.lock) fails.1.1.1.0;
      fenced = heard_or_broken broken (transfers_of m.lock) m.heard.fenced fails.1.1.1.1.0;
      listed = ltb-false _ _ fails.1.1.1.1.1.0;
    } where
      locked : (lock : Option Lock) → is_none lock ≡ false → is_some lock ≡ true
      locked None e = cc
      locked (Some lock) e = refl

row_heard : (rows : List HeardRow) (index bid : ℕ) → was_heard rows index bid ≡ true → (row : HeardRow) × IsIn row rows × (row.index ≡ index) × (row.bid ≡ bid)
row_heard rows index bid h =
    let found = any_gives (λ row. (row.index == index) && (row.bid == bid)) rows h in
    (found.0, found.1, eqb-true found.0.index index (and_left (found.0.index == index) (found.0.bid == bid) found.2), eqb-true found.0.bid bid (and_right (found.0.index == index) (found.0.bid == bid) found.2))

copy_heard : (shape : VolumeShape) (broken : ℕ → Bool) (m : Manager) (t : Transfer) (bid : ℕ) → AreAllSettled shape broken m → IsIn t (transfers_of m.lock)
    → benchmark_of shape m.homes broken m.heard.listings bid ≡ Due.Copy → IsHeardThere m.heard t.index bid
copy_heard shape broken m t bid settled i copy =
    let due = benchmark_of shape m.homes broken m.heard.listings bid in
    let here : is_settled m.heard bid due t.index ≡ true = false_not (is_settled m.heard bid due t.index) (none_passes (λ u. not (is_settled m.heard bid due u.index)) (transfers_of m.lock) (settled bid) t i) in
    elim (or_cases (was_heard m.heard.live t.index bid) (was_heard m.heard.marked t.index bid) (subst (λ d. is_settled m.heard bid d t.index ≡ true) copy here)) [
      | inl live ↦ (let found = row_heard m.heard.live t.index bid live in (found.0, inl found.1, found.2, found.3))
      | inr marked ↦ (let found = row_heard m.heard.marked t.index bid marked in (found.0, inr found.1, found.2, found.3))
    ]

unlock_shows : (broken : ℕ → Bool) (task : ℕ) (m : Manager) → unlock_refusal broken task m ≡ None
    → (is_swapped m.lock ≡ true) × ((t : Transfer) → IsIn t (transfers_of m.lock) → (is_in t.index m.heard.released ≡ true) ⊎ (broken t.old.disk ≡ true))
unlock_shows broken task m h =
    let fails = all_fail (unlock_tests broken task m) h in
    (false_not (is_swapped m.lock) fails.1.1.0, heard_or_broken broken (transfers_of m.lock) m.heard.released fails.1.1.1.0)

commit_shows : (shape : VolumeShape) (bid : ℕ) (m : Manager) → commit_refusal shape bid m ≡ None
    → (is_in bid m.asked ≡ true) × (m.lock ≡ None) × (shape.sight ≤ count_below shape.total (is_mark_heard m.homes m.marks bid))
commit_shows shape bid m h =
    let fails = all_fail (commit_tests shape bid m) h in
    (false_not (is_in bid m.asked) fails.0, no_lock m.lock fails.1.1.0, ltb-false _ _ fails.1.1.1.0)

mark_now : (m : Manager) (bid index : ℕ) → is_mark_heard m.homes m.marks bid index ≡ true → IsMarkedNow m bid index
mark_now m bid index h =
    let test = λ (k : HeardMark). (k.bid == bid) && ((k.index == index) && (k.epoch == (home_at m.homes index).epoch)) in
    let found = any_gives test m.marks h in
    let rest = and_right (found.0.bid == bid) ((found.0.index == index) && (found.0.epoch == (home_at m.homes index).epoch)) found.2 in (
      found.0,
      found.1,
      eqb-true found.0.bid bid (and_left (found.0.bid == bid) ((found.0.index == index) && (found.0.epoch == (home_at m.homes index).epoch)) found.2),
      eqb-true found.0.index index (and_left (found.0.index == index) (found.0.epoch == (home_at m.homes index).epoch) rest),
      eqb-true found.0.epoch (home_at m.homes index).epoch (and_right (found.0.index == index) (found.0.epoch == (home_at m.homes index).epoch) rest),
    )

earlier_unheard : (place : Place) (number said : ℕ) (shown : Shown) (m : Manager) → has_number m.lock number ≡ false → hear (Request.List place number) (Answer.Listing said shown) m ≡ m
earlier_unheard place number said shown m h = rw h refl

pub steps_show : StepsShow
steps_show = record {
  lock = lock_shows;
  epochs = epochs_new;
  swap = swap_shows;
  copied = copy_heard;
  unlock = unlock_shows;
  commit = commit_shows;
  marked = mark_now;
  earlier = earlier_unheard;
  anew = λ task number grants m. refl;
}
