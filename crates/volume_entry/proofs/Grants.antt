-- Targets whose disks are free, and the grants that they get.
use Rattle.std.proofs.Common.{◌≡◌, ℕ, zero, suc, ◌<◌, inl, inr, Bool, true, false, List, [], ◌∷◌, length, Option, Some, None, refl, sym, ◌∙◌, ap, cond, arith}
use Rattle.std.specs.Prelude.{◌==◌, ◌&&◌, not, is_some}
use Rattle.std.proofs.lemmas.Bool.{eqb-true, eqb-false}
use Rattle.unit_id.specs.Lists.{IsIn}
use Rattle.unit_id.specs.Place.{Location}
use Rattle.unit_id.specs.declared.targets.Target.{Target}
use Rattle.unit_id.proofs.Bools.{equal_test}
use Rattle.volume_entry.specs.Manager.{Transfer, Grant, home_at, AreInOrder}
use Rattle.volume_entry.specs.ManagerStep.{other_destination, or_else, holder, targeted, first_held, grant_of, grants_of, AreTargetsInOrder}

-- nothing is found: neither here nor there
pub or_else_none : (a b : Option ℕ) → or_else a b ≡ None → (a ≡ None) × (b ≡ None)
or_else_none None b h = (refl, h)
or_else_none (Some n) b h = cc

pub none_found : (o : Option ℕ) → is_some o ≡ false → o ≡ None
none_found None h = refl
none_found (Some n) h = cc

-- a disk that holds no current unit is free
pub holder_free : (k : ℕ) (homes : List Location) (disk : ℕ) → holder k homes disk ≡ None → (i : ℕ) → i < length homes → (home_at homes i).disk ≡ disk → ⊥
holder_free k [] disk h i below e = omega arith
holder_free k (home ∷ homes) disk h i below e = go (home.disk == disk) refl h i below e (holder_free (suc k) homes disk) where
  go : (test : Bool) → home.disk == disk ≡ test → cond test (Some k) (holder (suc k) homes disk) ≡ None → (i : ℕ) → i < length (home ∷ homes) → (home_at (home ∷ homes) i).disk ≡ disk
      → (holder (suc k) homes disk ≡ None → (i : ℕ) → i < length homes → (home_at homes i).disk ≡ disk → ⊥) → ⊥
  go true t h i below e rest = cc
  go false t h zero below e rest = eqb-false home.disk disk t e
  go false t h (suc i) below e rest = rest h i (omega arith) e

-- targets of which none is held
pub held_free : (homes : List Location) (earlier targets : List Target) → first_held homes earlier targets ≡ None → (w : Target) → IsIn w targets → holder 0 homes w.disk ≡ None
held_free homes earlier [] h w i = absurd i
held_free homes earlier (v ∷ vs) h w (inl e) =
    let one = or_else_none (or_else (holder 0 homes v.disk) (targeted earlier v.disk)) (first_held homes (v ∷ earlier) vs) h in
    ap (λ (x : Target). holder 0 homes x.disk) e ∙ (or_else_none (holder 0 homes v.disk) (targeted earlier v.disk) one.0).0
held_free homes earlier (v ∷ vs) h w (inr i) =
    held_free homes (v ∷ earlier) vs (or_else_none (or_else (holder 0 homes v.disk) (targeted earlier v.disk)) (first_held homes (v ∷ earlier) vs) h).1 w i

-- .. and whose disks no earlier target has
pub untargeted : (earlier : List Target) (disk : ℕ) → targeted earlier disk ≡ None → (w : Target) → IsIn w earlier → w.disk ≡ disk → ⊥
untargeted [] disk h w i e = absurd i
untargeted (v ∷ vs) disk h w i e = go (v.disk == disk) refl h i (untargeted vs disk) where
  go : (test : Bool) → v.disk == disk ≡ test → cond test (Some v.index) (targeted vs disk) ≡ None → IsIn w (v ∷ vs) → (targeted vs disk ≡ None → (w : Target) → IsIn w vs → w.disk ≡ disk → ⊥) → ⊥
  go true t h i rest = cc
  go false t h (inl a) rest = eqb-false v.disk disk t (ap (λ (x : Target). x.disk) (sym a) ∙ e)
  go false t h (inr i) rest = rest h w i e

pub held_untargeted : (homes : List Location) (earlier targets : List Target) → first_held homes earlier targets ≡ None → (v w : Target) → IsIn v earlier → IsIn w targets → v.disk ≡ w.disk → ⊥
held_untargeted homes earlier [] h v w i j e = absurd j
held_untargeted homes earlier (x ∷ xs) h v w i (inl a) e =
    let one = or_else_none (or_else (holder 0 homes x.disk) (targeted earlier x.disk)) (first_held homes (x ∷ earlier) xs) h in
    untargeted earlier x.disk (or_else_none (holder 0 homes x.disk) (targeted earlier x.disk) one.0).1 v i (e ∙ ap (λ (y : Target). y.disk) a)
held_untargeted homes earlier (x ∷ xs) h v w i (inr j) e =
    held_untargeted homes (x ∷ earlier) xs (or_else_none (or_else (holder 0 homes x.disk) (targeted earlier x.disk)) (first_held homes (x ∷ earlier) xs) h).1 v w (inr i) j e

pub held_apart : (homes : List Location) (earlier targets : List Target) → first_held homes earlier targets ≡ None → (v w : Target) → IsIn v targets → IsIn w targets → v.disk ≡ w.disk → v.index ≡ w.index
held_apart homes earlier [] h v w i j e = absurd i
held_apart homes earlier (x ∷ xs) h v w (inl a) (inl b) e = ap (λ (y : Target). y.index) (a ∙ sym b)
held_apart homes earlier (x ∷ xs) h v w (inl a) (inr j) e =
    absurd (held_untargeted homes (x ∷ earlier) xs (or_else_none (or_else (holder 0 homes x.disk) (targeted earlier x.disk)) (first_held homes (x ∷ earlier) xs) h).1 v w (inl a) j e)
held_apart homes earlier (x ∷ xs) h v w (inr i) (inl b) e =
    absurd (held_untargeted homes (x ∷ earlier) xs (or_else_none (or_else (holder 0 homes x.disk) (targeted earlier x.disk)) (first_held homes (x ∷ earlier) xs) h).1 w v (inl b) i (sym e))
held_apart homes earlier (x ∷ xs) h v w (inr i) (inr j) e =
    held_apart homes (x ∷ earlier) xs (or_else_none (or_else (holder 0 homes x.disk) (targeted earlier x.disk)) (first_held homes (x ∷ earlier) xs) h).1 v w i j e

-- grants are targets with the next epochs
pub grant_gives : (greatest : List ℕ) (targets : List Target) (t : Grant) → IsIn t (grants_of greatest targets) → (w : Target) × IsIn w targets × (t ≡ grant_of greatest w)
grant_gives greatest [] t h = absurd h
grant_gives greatest (w ∷ ws) t (inl e) = (w, inl refl, e)
grant_gives greatest (w ∷ ws) t (inr h) = let r = grant_gives greatest ws t h in (r.0, inr r.1, r.2)

pub grants_length : (greatest : List ℕ) (targets : List Target) → length (grants_of greatest targets) ≡ length targets
grants_length greatest [] = refl
grants_length greatest (w ∷ ws) = ap suc (grants_length greatest ws)

pub grants_order : (greatest : List ℕ) (targets : List Target) → AreTargetsInOrder targets → AreInOrder (grants_of greatest targets)
grants_order greatest [] h = tt
grants_order greatest (w ∷ ws) h = (
  (λ u i. let found = grant_gives greatest ws u i in
      let e = ap (λ (t : Grant). t.index) found.2 in let l = h.0 found.0 found.1 in omega (arith, e, l)),
  grants_order greatest ws h.1,
)

-- where no other transfer leads to the disk
pub other_gives : (ts : List Transfer) (index disk : ℕ) → other_destination ts index disk ≡ None → (t : Transfer) → IsIn t ts → t.dest.disk ≡ disk → t.index ≡ index
other_gives [] index disk h t i e = absurd i
other_gives (u ∷ us) index disk h t i e = go ((u.dest.disk == disk) && not (u.index == index)) refl h i (other_gives us index disk) where
  go : (test : Bool) → (u.dest.disk == disk) && not (u.index == index) ≡ test → cond test (Some u.index) (other_destination us index disk) ≡ None → IsIn t (u ∷ us)
      → (other_destination us index disk ≡ None → (t : Transfer) → IsIn t us → t.dest.disk ≡ disk → t.index ≡ index) → t.index ≡ index
  go true f x j rest = cc
  go false f x (inr j) rest = rest x t j e
  go false f x (inl here) rest = ap (λ (y : Transfer). y.index) here ∙ found (u.dest.disk == disk) (u.index == index) refl (equal_test u.dest.disk disk (ap (λ (y : Transfer). y.dest.disk) (sym here) ∙ e)) f where
    found : (d n : Bool) → u.index == index ≡ n → d ≡ true → d && not n ≡ false → u.index ≡ index
    found d true a b c = eqb-true u.index index a
    found true false a b c = cc
    found false false a b c = cc
