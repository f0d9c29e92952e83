-- What holds of all elements of a list, gone through from the front.
use Rattle.std.proofs.Common.{◌≡◌, ◌∙◌, ◌⊎◌, inl, inr, sym, ap, subst, refl, ℕ, zero, suc, ◌+◌, ◌<◌, ◌≤◌, Bool, true, false, cond, ◌==◌, List, [], ◌∷◌, ◌++◌, length, take, drop, get_or, arith, Option, Some, None}
use Rattle.std.proofs.lemmas.Bool.Decides.{nat_tests}
use Rattle.std.proofs.lemmas.List.{take_more, take_all, at_drop_more}
use Rattle.unit_id.specs.Lists.{IsIn, any}
use Rattle.unit_id.specs.Place.{Location}
use Rattle.std.specs.Prelude.{is_some, not, ◌-◌, ◌||◌, ◌^◌}
use Rattle.std.proofs.lemmas.Bool.{eqb-true, eqb-false}
use Rattle.code_mode.specs.VolumeShape.{VolumeShape}
use Rattle.volume_entry.specs.Manager.{Grant, Transfer, Manager, ManagerRecord, IsLegal, IsFree, AreInOrder}
use Rattle.volume_entry.specs.TableParts.{Tells, IsBefore, AreApart, CanTake}
use Rattle.volume_entry.proofs.Grants.{holder_free}
use Rattle.volume_entry.specs.ManagerStep.{holder}

module _ {A : Type 0} where
  in_push : (xs : List A) (x t : A) → IsIn t (xs ++ x ∷ []) → IsIn t xs ⊎ (t ≡ x)
  in_push [] x t (inl e) = inr e
  in_push [] x t (inr h) = absurd h
  in_push (y ∷ ys) x t (inl e) = inl (inl e)
  in_push (y ∷ ys) x t (inr h) = elim (in_push ys x t h) [ inl i ↦ inl (inr i) | inr e ↦ inr e ]

  -- an element at a place is in the list
  pub in_at : (xs : List A) (k : ℕ) (x : A) → k < length xs → x ≡ get_or xs k x → IsIn x xs
  in_at [] k x h e = absurd (omega arith)
  in_at (y ∷ ys) zero x h e = inl e
  in_at (y ∷ ys) (suc k) x h e = inr (in_at ys k x (omega arith) e)

  module _ (P : A → Type 0) where
    pub all_more : (xs : List A) (k : ℕ) (x : A) → k < length xs → x ≡ get_or xs k x → ((t : A) → IsIn t (take k xs) → P t) → P x → (t : A) → IsIn t (take (k + 1) xs) → P t
    all_more xs k x h e all here t i =
        elim (in_push (take k xs) (get_or xs k x) t (subst (IsIn t) (take_more xs k x h) i)) [
          | inl before ↦ all t before
          | inr same ↦ subst P (e ∙ sym same) here
        ]

    pub all_end : (xs : List A) (k : ℕ) → length xs ≤ k → ((t : A) → IsIn t (take k xs) → P t) → (t : A) → IsIn t xs → P t
    all_end xs k h all t i = all t (subst (IsIn t) (sym (take_all k xs h)) i)

-- ---- which current unit stands on a disk

same_is : (a b : ℕ) → a ≡ b → (a == b) ≡ true
same_is a b h = grind (arith, nat_tests)

different_is : (a b : ℕ) → (a ≡ b → ⊥) → (a == b) ≡ false
different_is a b h = grind (arith, nat_tests)

module _ (homes : List Location) (k : ℕ) (home : Location) (disk : ℕ) where
  holder-at : k < length homes → home ≡ get_or homes k home → holder k (drop k homes) disk ≡ cond (home.disk == disk) (Some k) (holder (suc k) (drop (k + 1) homes) disk)
  holder-at h e =
      at_drop_more (λ (hs : List Location). holder k hs disk) homes k home h
      ∙ ap (λ (l : Location). cond (l.disk == disk) (Some k) (holder (suc k) (drop (k + 1) homes) disk)) (sym e)

  pub holder-hit : k < length homes → home ≡ get_or homes k home → home.disk ≡ disk → holder k (drop k homes) disk ≡ Some k
  holder-hit h e d = holder-at h e ∙ ap (λ b. cond b (Some k) (holder (suc k) (drop (k + 1) homes) disk)) (same_is home.disk disk d)

  pub holder-skip : k < length homes → home ≡ get_or homes k home → (home.disk ≡ disk → ⊥) → holder k (drop k homes) disk ≡ holder (k + 1) (drop (k + 1) homes) disk
  holder-skip h e d =
      let next : suc k ≡ k + 1 = omega arith in
      holder-at h e ∙ ap (λ b. cond b (Some k) (holder (suc k) (drop (k + 1) homes) disk)) (different_is home.disk disk d)
      ∙ ap (λ n. holder n (drop (k + 1) homes) disk) next

pub free_holder : (k : ℕ) (homes : List Location) (disk : ℕ) → IsFree homes disk → holder k homes disk ≡ None
free_holder k [] disk free = refl
free_holder k (home ∷ homes) disk free =
    let here : home.disk ≡ disk → ⊥ = free 0 (omega arith) in
    ap (λ b. cond b (Some k) (holder (suc k) homes disk)) (different_is home.disk disk here)
    ∙ free_holder (suc k) homes disk (λ i h e. free (suc i) (omega arith) e)

-- ---- tests

pub free_tells : (homes : List Location) (disk : ℕ) (found : Option ℕ) (answer : Bool) → found ≡ holder 0 homes disk → is_some found ≡ not answer → Tells answer (IsFree homes disk)
free_tells homes disk None true e r = holder_free 0 homes disk (sym e)
free_tells homes disk None false e r = cc
free_tells homes disk (Some index) true e r = cc
free_tells homes disk (Some index) false e r = λ free. some_none index (e ∙ free_holder 0 homes disk free)
  where
    some_none : (i : ℕ) → Some i ≡ None → ⊥
    some_none i h = cc

pub same_unless : (a b : ℕ) → ((a ≡ b → ⊥) → ⊥) → a ≡ b
same_unless a b h = go (a == b) refl where
  go : (test : Bool) → a == b ≡ test → a ≡ b
  go true e = eqb-true a b e
  go false e = absurd (h (eqb-false a b e))

-- the first grant is before the others, which are apart
pub apart_both : (t : Grant) (ts all : List Grant) (answer : Bool) → all ≡ t ∷ ts → IsBefore t ts → Tells answer (AreApart ts) → Tells answer (AreApart all)
apart_both t ts all true e before apart = let P : List Grant → Type 0 = AreApart in subst P (sym e) (before, apart)
apart_both t ts all false e before apart = let P : List Grant → Type 0 = λ gs. AreApart gs → ⊥ in subst P (sym e) (λ h. apart h.1)

pub apart_not : (t : Grant) (ts all : List Grant) → all ≡ t ∷ ts → (IsBefore t ts → ⊥) → AreApart all → ⊥
apart_not t ts all e h = let P : List Grant → Type 0 = λ gs. AreApart gs → ⊥ in subst P (sym e) (λ a. h a.0)

-- a list by its first element and the slice behind it
pub first_and_rest : (gs : List Grant) (g : Grant) → 1 ≤ length gs → g ≡ get_or gs 0 g → gs ≡ g ∷ take (length gs - 1) (drop 1 gs)
first_and_rest [] g h e = absurd (omega arith)
first_and_rest (x ∷ xs) g h e =
    let n : length (x ∷ xs) - 1 ≡ length xs = omega arith in
    ap (λ y. y ∷ xs) (sym e) ∙ ap (λ ys. g ∷ ys) (sym (ap (λ k. take k xs) n ∙ take_all (length xs) xs (omega arith)))

-- ---- grants that are apart

pub apart_order : (gs : List Grant) → AreApart gs → AreInOrder gs
apart_order [] a = tt
apart_order (g ∷ gs) a = ((λ u i. (a.0 u i).0), apart_order gs a.1)

pub apart_disks : (gs : List Grant) → AreApart gs → (t u : Grant) → IsIn t gs → IsIn u gs → t.dest.disk ≡ u.dest.disk → t.index ≡ u.index
apart_disks [] a t u i j e = absurd i
apart_disks (g ∷ gs) a t u (inl i) (inl j) e = ap (λ (h : Grant). h.index) (i ∙ sym j)
apart_disks (g ∷ gs) a t u (inl i) (inr j) e = absurd ((a.0 u j).1 (ap (λ (h : Grant). h.dest.disk) (sym i) ∙ e))
apart_disks (g ∷ gs) a t u (inr i) (inl j) e = absurd ((a.0 t i).1 (sym (e ∙ ap (λ (h : Grant). h.dest.disk) j)))
apart_disks (g ∷ gs) a t u (inr i) (inr j) e = apart_disks gs a.1 t u i j e

pub apart_of : (gs : List Grant) → AreInOrder gs → ((t u : Grant) → IsIn t gs → IsIn u gs → t.dest.disk ≡ u.dest.disk → t.index ≡ u.index) → AreApart gs
apart_of [] o a = tt
apart_of (g ∷ gs) o a = (
  (λ u i. let later : g.index < u.index = o.0 u i in (later, (λ e. let same : g.index ≡ u.index = a g u (inl refl) (inr i) e in absurd (omega (arith, later, same))))),
  apart_of gs o.1 (λ t u i j e. a t u (inr i) (inr j) e),
)

pub tells_map : (P Q : Type 0) (answer : Bool) → (P → Q) → (Q → P) → Tells answer P → Tells answer Q
tells_map P Q true f g h = f h
tells_map P Q false f g h = λ q. h (g q)

-- ---- some transfer of an index

module _ (ts : List Transfer) (k : ℕ) (x : Transfer) (index : ℕ) where
  moves-at : k < length ts → x ≡ get_or ts k x → any (λ (t : Transfer). t.index == index) (drop k ts) ≡ ((x.index == index) || any (λ (t : Transfer). t.index == index) (drop (k + 1) ts))
  moves-at h e =
      at_drop_more (λ (us : List Transfer). any (λ (t : Transfer). t.index == index) us) ts k x h
      ∙ ap (λ (u : Transfer). (u.index == index) || any (λ (t : Transfer). t.index == index) (drop (k + 1) ts)) (sym e)

  pub moves-hit : k < length ts → x ≡ get_or ts k x → x.index ≡ index → any (λ (t : Transfer). t.index == index) (drop k ts) ≡ true
  moves-hit h e i = moves-at h e ∙ ap (λ b. b || any (λ (t : Transfer). t.index == index) (drop (k + 1) ts)) (same_is x.index index i)

  pub moves-skip : k < length ts → x ≡ get_or ts k x → (x.index ≡ index → ⊥) → any (λ (t : Transfer). t.index == index) (drop k ts) ≡ any (λ (t : Transfer). t.index == index) (drop (k + 1) ts)
  moves-skip h e i = moves-at h e ∙ ap (λ b. b || any (λ (t : Transfer). t.index == index) (drop (k + 1) ts)) (different_is x.index index i)

-- ---- what is legal can be taken

pub can_take : (shape : VolumeShape) (m : Manager) (item : ManagerRecord) → IsLegal shape m item → m.version + 1 < 2 ^ 64 → CanTake m item
can_take shape m (ManagerRecord.Made homes) l v = tt
can_take shape m (ManagerRecord.Leased end) l v = tt
can_take shape m (ManagerRecord.Locked task number grants) l v = tt
can_take shape m (ManagerRecord.Retargeted grant) l v = tt
can_take shape m ManagerRecord.Swapped l v = v
can_take shape m ManagerRecord.Unlocked l v = tt
can_take shape m (ManagerRecord.Asked bid) l v = l.1
can_take shape m (ManagerRecord.Committed bid) l v = l.2
