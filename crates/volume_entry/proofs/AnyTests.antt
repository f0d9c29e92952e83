-- Whether some element of a list passes a test, gone through from the front.
use Rattle.std.proofs.Common.{◌≡◌, ◌∙◌, sym, ap, refl, ℕ, ◌+◌, ◌<◌, Bool, true, false, ◌||◌, List, [], ◌∷◌, length, drop, get_or}
use Rattle.std.proofs.lemmas.List.{at_drop_more}
use Rattle.unit_id.specs.Lists.{any}

module _ {A : Type 0} (test : A → Bool) (xs : List A) (k : ℕ) (x : A) where
  at : k < length xs → x ≡ get_or xs k x → any test (drop k xs) ≡ (test x || any test (drop (k + 1) xs))
  at h e = at_drop_more (any test) xs k x h ∙ ap (λ y. test y || any test (drop (k + 1) xs)) (sym e)

  pub any_hit : k < length xs → x ≡ get_or xs k x → test x ≡ true → any test (drop k xs) ≡ true
  any_hit h e t = at h e ∙ ap (λ b. b || any test (drop (k + 1) xs)) t

  pub any_skip : k < length xs → x ≡ get_or xs k x → test x ≡ false → any test (drop k xs) ≡ any test (drop (k + 1) xs)
  any_skip h e t = at h e ∙ ap (λ b. b || any test (drop (k + 1) xs)) t

-- one test says what another does
pub any_same : {A : Type 0} (f g : A → Bool) (xs : List A) → ((x : A) → f x ≡ g x) → any f xs ≡ any g xs
any_same f g [] h = refl
any_same f g (x ∷ xs) h = λ j. h x j || any_same f g xs h j
