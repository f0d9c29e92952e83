-- A set of blobs, the latest first.
use Rattle.std.proofs.Common.{◌≡◌, ◌∙◌, sym, ap, refl, ℕ, Bool, true, false, if◌then◌else◌, ◌||◌, ◌==◌, List, [], ◌∷◌, ◌++◌, reverse}
use Rattle.std.specs.List.{list_any}
use Rattle.std.proofs.lemmas.List.{reverse-append}
use Rattle.unit_id.specs.Lists.{any, is_in}

any-append : (test : ℕ → Bool) (xs ys : List ℕ) → any test (xs ++ ys) ≡ (any test xs || any test ys)
any-append test [] ys = refl
any-append test (x ∷ xs) ys = elim (test x) as (λ b. (b || any test (xs ++ ys)) ≡ ((b || any test xs) || any test ys)) [ true ↦ refl | false ↦ any-append test xs ys ]

either_way : (a b : Bool) → (b || (a || false)) ≡ (a || b)
either_way true true = refl
either_way true false = refl
either_way false true = refl
either_way false false = refl

pub reverse-push : (xs : List ℕ) (x : ℕ) → reverse (xs ++ x ∷ []) ≡ x ∷ reverse xs
reverse-push xs x = reverse-append xs (x ∷ [])

pub is_in-reverse : (n : ℕ) (xs : List ℕ) → list_any (λ m. n == m) xs ≡ is_in n (reverse xs)
is_in-reverse n [] = refl
is_in-reverse n (x ∷ xs) =
    let first : reverse (x ∷ xs) ≡ reverse xs ++ x ∷ [] = reverse-append (x ∷ []) xs in
    ap (λ b. (n == x) || b) (is_in-reverse n xs)
    ∙ sym (ap (is_in n) first ∙ any-append (λ m. n == m) (reverse xs) (x ∷ []) ∙ either_way (n == x) (is_in n (reverse xs)))

-- one blob more
pub added_is : (n : ℕ) (ks new bids : List ℕ) → new ≡ (if list_any (λ m. n == m) ks then ks else ks ++ n ∷ []) → reverse ks ≡ bids → is_in n bids ≡ false → reverse new ≡ n ∷ bids
added_is n ks new bids e r h =
    let out : list_any (λ m. n == m) ks ≡ false = is_in-reverse n ks ∙ ap (is_in n) r ∙ h in
    ap reverse (e ∙ ap (λ b. if b then ks else ks ++ n ∷ []) out) ∙ reverse-push ks n ∙ ap (λ bs. n ∷ bs) r
