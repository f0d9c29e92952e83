-- Targets and transfers gone through from the front: whose disk is taken, and which grants they get.
use Rattle.std.proofs.Common.{◌≡◌, ◌∙◌, sym, ap, refl, ℕ, zero, suc, ◌+◌, ◌<◌, ◌≤◌, Bool, true, false, cond, ◌==◌, not, ◌&&◌, List, [], ◌∷◌, ◌++◌, length, take, drop, get_or, reverse, Option, None, Some, inl, inr, arith}
use Rattle.std.specs.Prelude.{is_some}
use Rattle.std.proofs.lemmas.List.{at_drop_more, take_more, reverse-append}
use Rattle.unit_id.specs.Lists.{IsIn}
use Rattle.unit_id.specs.Place.{Location}
use Rattle.unit_id.specs.declared.targets.Target.{Target}
use Rattle.code_mode.specs.VolumeShape.{last_epoch}
use Rattle.volume_entry.specs.Manager.{Grant, Transfer}
use Rattle.volume_entry.specs.ManagerStep.{holder, targeted, first_held, or_else, other_destination, grant_of, grants_of}
use Rattle.volume_entry.specs.Granting.{AreWithinLast}

-- ---- disks that are taken

pub holder_within : (k : ℕ) (homes : List Location) (disk i : ℕ) → holder k homes disk ≡ Some i → i < k + length homes
holder_within k [] disk i h = cc
holder_within k (home ∷ homes) disk i h = go (home.disk == disk) h (holder_within (suc k) homes disk i) where
  same : Some k ≡ Some i → k ≡ i
  same e = cc

  go : (test : Bool) → cond test (Some k) (holder (suc k) homes disk) ≡ Some i → (holder (suc k) homes disk ≡ Some i → i < suc k + length homes) → i < k + length (home ∷ homes)
  go true e rest = let s = same e in omega (arith, s)
  go false e rest = let r = rest e in omega (arith, r)

pub or_else_some : (a b : Option ℕ) → is_some a ≡ true → or_else a b ≡ a
or_else_some None b h = cc
or_else_some (Some n) b h = refl

pub or_else_other : (a b : Option ℕ) → is_some a ≡ false → or_else a b ≡ b
or_else_other None b h = refl
or_else_other (Some n) b h = cc

module _ (ts : List Target) (k : ℕ) (x d : Target) (below : k < length ts) (here : x ≡ get_or ts k d) where
  -- the targets so far, with one more, from the last on
  pub reversed_more : reverse (take (k + 1) ts) ≡ x ∷ reverse (take k ts)
  reversed_more =
      ap reverse (take_more ts k d below) ∙ reverse-append (take k ts) (get_or ts k d ∷ []) ∙ ap (λ (y : Target). y ∷ reverse (take k ts)) (sym here)

  pub targeted_more : (disk : ℕ) (found new : Option ℕ) → found ≡ targeted (reverse (take k ts)) disk → new ≡ cond (x.disk == disk) (Some x.index) found → new ≡ targeted (reverse (take (k + 1) ts)) disk
  targeted_more disk found new before is = is ∙ ap (cond (x.disk == disk) (Some x.index)) before ∙ sym (ap (λ us. targeted us disk) reversed_more)

  held_at : (homes : List Location) → first_held homes (reverse (take k ts)) (drop k ts)
      ≡ or_else (or_else (holder 0 homes x.disk) (targeted (reverse (take k ts)) x.disk)) (first_held homes (reverse (take (k + 1) ts)) (drop (k + 1) ts))
  held_at homes =
      at_drop_more (first_held homes (reverse (take k ts))) ts k d below
      ∙ ap (λ (y : Target). or_else (or_else (holder 0 homes y.disk) (targeted (reverse (take k ts)) y.disk)) (first_held homes (y ∷ reverse (take k ts)) (drop (k + 1) ts))) (sym here)
      ∙ ap (λ us. or_else (or_else (holder 0 homes x.disk) (targeted (reverse (take k ts)) x.disk)) (first_held homes us (drop (k + 1) ts))) (sym reversed_more)

  -- its disk is taken
  pub held_hit : (homes : List Location) (found : Option ℕ) → found ≡ or_else (holder 0 homes x.disk) (targeted (reverse (take k ts)) x.disk) → is_some found ≡ true
      → first_held homes (reverse (take k ts)) (drop k ts) ≡ found
  held_hit homes found is some =
      held_at homes ∙ ap (λ o. or_else o (first_held homes (reverse (take (k + 1) ts)) (drop (k + 1) ts))) (sym is)
      ∙ or_else_some found (first_held homes (reverse (take (k + 1) ts)) (drop (k + 1) ts)) some

  -- .. or isn't
  pub held_skip : (homes : List Location) (found : Option ℕ) → found ≡ or_else (holder 0 homes x.disk) (targeted (reverse (take k ts)) x.disk) → is_some found ≡ false
      → first_held homes (reverse (take k ts)) (drop k ts) ≡ first_held homes (reverse (take (k + 1) ts)) (drop (k + 1) ts)
  held_skip homes found is none =
      held_at homes ∙ ap (λ o. or_else o (first_held homes (reverse (take (k + 1) ts)) (drop (k + 1) ts))) (sym is)
      ∙ or_else_other found (first_held homes (reverse (take (k + 1) ts)) (drop (k + 1) ts)) none

module _ (ts : List Transfer) (k : ℕ) (x : Transfer) (index disk : ℕ) (below : k < length ts) (here : x ≡ get_or ts k x) where
  other_at : other_destination (drop k ts) index disk ≡ cond ((x.dest.disk == disk) && not (x.index == index)) (Some x.index) (other_destination (drop (k + 1) ts) index disk)
  other_at =
      at_drop_more (λ us. other_destination us index disk) ts k x below
      ∙ ap (λ (y : Transfer). cond ((y.dest.disk == disk) && not (y.index == index)) (Some y.index) (other_destination (drop (k + 1) ts) index disk)) (sym here)

  pub other_hit : (x.dest.disk == disk) && not (x.index == index) ≡ true → other_destination (drop k ts) index disk ≡ Some x.index
  other_hit test = other_at ∙ ap (λ b. cond b (Some x.index) (other_destination (drop (k + 1) ts) index disk)) test

  pub other_skip : (x.dest.disk == disk) && not (x.index == index) ≡ false → other_destination (drop k ts) index disk ≡ other_destination (drop (k + 1) ts) index disk
  other_skip test = other_at ∙ ap (λ b. cond b (Some x.index) (other_destination (drop (k + 1) ts) index disk)) test

-- ---- grants

grants_push : (greatest : List ℕ) (xs : List Target) (x : Target) → grants_of greatest (xs ++ x ∷ []) ≡ grants_of greatest xs ++ grant_of greatest x ∷ []
grants_push greatest [] x = refl
grants_push greatest (y ∷ ys) x = ap (λ gs. grant_of greatest y ∷ gs) (grants_push greatest ys x)

-- one target more is granted
pub grants_more : (greatest : List ℕ) (ts : List Target) (k : ℕ) (d : Target) (items new : List Grant) (grant : Grant) → k < length ts
    → items ≡ grants_of greatest (take k ts) → grant ≡ grant_of greatest (get_or ts k d) → new ≡ items ++ grant ∷ [] → new ≡ grants_of greatest (take (k + 1) ts)
grants_more greatest ts k d items new grant below before is pushed =
    pushed ∙ ap (λ gs. gs ++ grant ∷ []) before ∙ ap (λ g. grants_of greatest (take k ts) ++ g ∷ []) is
    ∙ sym (ap (grants_of greatest) (take_more ts k d below) ∙ grants_push greatest (take k ts) (get_or ts k d))

grant_in : (greatest : List ℕ) (ts : List Target) (w : Target) → IsIn w ts → IsIn (grant_of greatest w) (grants_of greatest ts)
grant_in greatest [] w i = absurd i
grant_in greatest (t ∷ ts) w (inl e) = inl (ap (grant_of greatest) e)
grant_in greatest (t ∷ ts) w (inr i) = inr (grant_in greatest ts w i)

target_in : (ts : List Target) (k : ℕ) (d : Target) → k < length ts → IsIn (get_or ts k d) ts
target_in [] k d h = absurd (omega arith)
target_in (t ∷ ts) zero d h = inl refl
target_in (t ∷ ts) (suc k) d h = inr (target_in ts k d (omega arith))

pub grant_within : (greatest : List ℕ) (ts : List Target) (k : ℕ) (d : Target) → k < length ts → AreWithinLast greatest ts → (grant_of greatest (get_or ts k d)).dest.epoch ≤ last_epoch
grant_within greatest ts k d below all = all (grant_of greatest (get_or ts k d)) (grant_in greatest ts (get_or ts k d) (target_in ts k d below))
