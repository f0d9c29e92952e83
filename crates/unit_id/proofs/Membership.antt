-- Membership in lists.
use Rattle.std.proofs.Common.{◌≡◌, inl, inr, Bool, true, false, List, [], ◌∷◌, refl, sym, ◌∙◌, ap}
use Rattle.unit_id.specs.Lists.{IsIn, any}
use Rattle.unit_id.proofs.Bools.{or_cases, or_left, or_right, or_none}

-- an element that passes
pub any_gives : {A : Type 0} (test : A → Bool) (xs : List A) → any test xs ≡ true → (x : A) × IsIn x xs × (test x ≡ true)
any_gives test [] h = cc
any_gives test (x ∷ xs) h = elim (or_cases (test x) (any test xs) h) [
  | inl here ↦ (x, inl refl, here)
  | inr there ↦ let r = any_gives test xs there in (r.0, inr r.1, r.2)
]

pub gives_any : {A : Type 0} (test : A → Bool) (xs : List A) (x : A) → IsIn x xs → test x ≡ true → any test xs ≡ true
gives_any test [] x h k = absurd h
gives_any test (y ∷ ys) x (inl e) k = or_left (test y) (any test ys) (ap test (sym e) ∙ k)
gives_any test (y ∷ ys) x (inr h) k = or_right (test y) (any test ys) (gives_any test ys x h k)

-- where none passes
pub none_passes : {A : Type 0} (test : A → Bool) (xs : List A) → any test xs ≡ false → (x : A) → IsIn x xs → test x ≡ false
none_passes test [] h x k = absurd k
none_passes test (y ∷ ys) h x (inl e) = ap test e ∙ (or_none (test y) (any test ys) h).0
none_passes test (y ∷ ys) h x (inr k) = none_passes test ys (or_none (test y) (any test ys) h).1 x k
