-- The units that legal records leave may be named.
use Rattle.std.proofs.Common.{◌≡◌, sym, refl, subst, ℕ, zero, suc, ◌<◌, Bool, true, false, cond, List, [], ◌∷◌, length, Option, None, Some, inl, inr, arith}
use Rattle.std.specs.Prelude.{◌==◌}
use Rattle.unit_id.specs.Lists.{IsIn}
use Rattle.unit_id.specs.Place.{Location}
use Rattle.code_mode.specs.VolumeShape.{VolumeShape}
use Rattle.volume_entry.specs.Manager.{Transfer, Lock, Grant, AreFirstHomes, IsNextHome, home_at, transfers_of, transfers_to, moved_one, moved, redirected, redirected_lock, swapped_lock}
use Rattle.volume_entry.specs.FirstHomes.{AreFresh}
use Rattle.volume_entry.specs.Book.{IsEpoch, AreNamed, AreMovesNamed}
use Rattle.volume_entry.proofs.FirstHomes.{are_fresh}

named_fresh : (shape : VolumeShape) (homes : List Location) → AreFresh shape homes → AreNamed homes
named_fresh shape [] f home i = absurd i
named_fresh shape (x ∷ xs) f home (inl e) = subst (λ (h : Location). IsEpoch h.epoch) (sym e) (record { first = f.0.first; last = f.0.last })
named_fresh shape (x ∷ xs) f home (inr i) = named_fresh shape xs f.1 home i

pub named_first : (shape : VolumeShape) (homes : List Location) → AreFirstHomes shape homes → AreNamed homes
named_first shape homes first = named_fresh shape homes (are_fresh shape homes first)

-- ---- the next epochs of a lock

pub next_named : (shape : VolumeShape) (homes : List Location) (greatest : List ℕ) (grant : Grant) → IsNextHome shape homes greatest grant → IsEpoch grant.dest.epoch
next_named shape homes greatest grant next = let e = next.epoch in record { first = omega (arith, e); last = next.last }

pub home_in : (homes : List Location) (i : ℕ) → i < length homes → IsIn (home_at homes i) homes
home_in [] i h = absurd (omega arith)
home_in (x ∷ xs) zero h = inl refl
home_in (x ∷ xs) (suc i) h = inr (home_in xs i (omega arith))

module _ (shape : VolumeShape) (homes : List Location) (greatest : List ℕ) (count : length homes ≡ shape.total) (named : AreNamed homes) where
  pub granted_named : (grants : List Grant) → ((t : Grant) → IsIn t grants → IsNextHome shape homes greatest t) → AreMovesNamed (transfers_to grants homes)
  granted_named [] each t i = absurd i
  granted_named (g ∷ gs) each t (inl e) =
      let next = each g (inl refl) in
      let below = next.index in
      subst (λ (u : Transfer). IsEpoch u.old.epoch × IsEpoch u.dest.epoch) (sym e) (named (home_at homes g.index) (home_in homes g.index (omega (arith, below, count))), next_named shape homes greatest g next)
  granted_named (g ∷ gs) each t (inr i) = granted_named gs (λ u j. each u (inr j)) t i

-- ---- a new destination

redirected_named : (grant : Grant) (ts : List Transfer) → IsEpoch grant.dest.epoch → AreMovesNamed ts → AreMovesNamed (redirected grant ts)
redirected_named grant [] new named t i = absurd i
redirected_named grant (x ∷ xs) new named t (inl e) = subst (λ (u : Transfer). IsEpoch u.old.epoch × IsEpoch u.dest.epoch) (sym e) ((named x (inl refl)).0, dest (x.index == grant.index)) where
  dest : (test : Bool) → IsEpoch (cond test grant.dest x.dest).epoch
  dest true = new
  dest false = (named x (inl refl)).1
redirected_named grant (x ∷ xs) new named t (inr i) = redirected_named grant xs new (λ u j. named u (inr j)) t i

pub lock_redirected_named : (grant : Grant) (lock : Option Lock) → IsEpoch grant.dest.epoch → AreMovesNamed (transfers_of lock) → AreMovesNamed (transfers_of (redirected_lock grant lock))
lock_redirected_named grant None new named = named
lock_redirected_named grant (Some lock) new named = redirected_named grant lock.transfers new named

-- ---- a swap

moved_one_named : (ts : List Transfer) (i : ℕ) (home : Location) → AreMovesNamed ts → IsEpoch home.epoch → IsEpoch (moved_one ts i home).epoch
moved_one_named [] i home named h = h
moved_one_named (t ∷ ts) i home named h = go (t.index == i) (moved_one_named ts i home (λ u j. named u (inr j)) h) where
  go : (test : Bool) → IsEpoch (moved_one ts i home).epoch → IsEpoch (cond test t.dest (moved_one ts i home)).epoch
  go true rest = (named t (inl refl)).1
  go false rest = rest

pub moved_named : (k : ℕ) (ts : List Transfer) (homes : List Location) → AreMovesNamed ts → AreNamed homes → AreNamed (moved k ts homes)
moved_named k ts [] moves named home i = absurd i
moved_named k ts (x ∷ xs) moves named home (inl e) = subst (λ (h : Location). IsEpoch h.epoch) (sym e) (moved_one_named ts k x moves (named x (inl refl)))
moved_named k ts (x ∷ xs) moves named home (inr i) = moved_named (suc k) ts xs moves (λ h j. named h (inr j)) home i

pub swapped_named : (lock : Option Lock) → AreMovesNamed (transfers_of lock) → AreMovesNamed (transfers_of (swapped_lock lock))
swapped_named None named = named
swapped_named (Some lock) named = named
