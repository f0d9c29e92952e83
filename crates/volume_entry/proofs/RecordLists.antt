-- Lists of homes and grants, one more at a time, and the fields of records by their kind.
use Rattle.std.proofs.Common.{◌≡◌, ◌∙◌, sym, ap, subst, refl, ℕ, ◌+◌, ◌<◌, List, [], ◌∷◌, ◌++◌, length, take, get_or, append_assoc}
use Rattle.std.specs.List.{flat_map}
use Rattle.std.proofs.lemmas.List.{take_more}
use Rattle.unit_id.specs.Place.{Location}
use Rattle.volume_entry.specs.Manager.{Grant}
use Rattle.volume_entry.specs.Spelling.{HomeFits, GrantFits, DoHomesFit, DoGrantsFit}

pub homes_fit-push : (xs : List Location) (x : Location) → DoHomesFit xs → HomeFits x → DoHomesFit (xs ++ x ∷ [])
homes_fit-push [] x h f = (f, tt)
homes_fit-push (y ∷ ys) x h f = (h.0, homes_fit-push ys x h.1 f)

pub grants_fit-push : (xs : List Grant) (x : Grant) → DoGrantsFit xs → GrantFits x → DoGrantsFit (xs ++ x ∷ [])
grants_fit-push [] x h f = (f, tt)
grants_fit-push (y ∷ ys) x h f = (h.0, grants_fit-push ys x h.1 f)

pub homes_fit-more : (xs : List Location) (i : ℕ) (x : Location) → i < length xs → x ≡ get_or xs i x → DoHomesFit (take i xs) → HomeFits x → DoHomesFit (take (i + 1) xs)
homes_fit-more xs i x h e d f = subst DoHomesFit (sym (take_more xs i x h)) (homes_fit-push (take i xs) (get_or xs i x) d (subst HomeFits e f))

pub grants_fit-more : (xs : List Grant) (i : ℕ) (x : Grant) → i < length xs → x ≡ get_or xs i x → DoGrantsFit (take i xs) → GrantFits x → DoGrantsFit (take (i + 1) xs)
grants_fit-more xs i x h e d f = subst DoGrantsFit (sym (take_more xs i x h)) (grants_fit-push (take i xs) (get_or xs i x) d (subst GrantFits e f))

module _ {A : Type 0} (f : A → List ℕ) where
  -- the bytes of one item more
  pub bytes-push : (xs : List A) (x : A) → flat_map f (xs ++ x ∷ []) ≡ flat_map f xs ++ f x
  bytes-push [] x = append_nil (f x)
    where
      append_nil : (ys : List ℕ) → ys ++ [] ≡ ys
      append_nil [] = refl
      append_nil (y ∷ ys) = ap (λ t. y ∷ t) (append_nil ys)
  bytes-push (y ∷ ys) x = ap (λ t. f y ++ t) (bytes-push ys x) ∙ sym (append_assoc (f y) (flat_map f ys) (f x))

  -- one item is split off what is left
  pub bytes-split : (bytes : List ℕ) (xs : List A) (x : A) (left rest : List ℕ) → bytes ≡ flat_map f xs ++ left → left ≡ f x ++ rest → bytes ≡ flat_map f (xs ++ x ∷ []) ++ rest
  bytes-split bytes xs x left rest e h =
      e ∙ ap (λ t. flat_map f xs ++ t) h ∙ sym (append_assoc (flat_map f xs) (f x) rest) ∙ ap (λ t. t ++ rest) (sym (bytes-push xs x))

  -- one item is appended
  pub bytes-more : (out start : List ℕ) (xs : List A) (i : ℕ) (x : A) (new : List ℕ) → i < length xs → x ≡ get_or xs i x → out ≡ start ++ flat_map f (take i xs) → new ≡ out ++ f x → new ≡ start ++ flat_map f (take (i + 1) xs)
  bytes-more out start xs i x new h e o n =
      n ∙ ap (λ t. t ++ f x) o ∙ append_assoc start (flat_map f (take i xs)) (f x)
      ∙ ap (λ t. start ++ t) (ap (λ t. flat_map f (take i xs) ++ f t) e ∙ sym (bytes-push (take i xs) (get_or xs i x)) ∙ ap (flat_map f) (sym (take_more xs i x h)))
