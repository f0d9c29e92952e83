-- A listing is decided by the rows: ascending lists of the same numbers are equal.
use Rattle.std.proofs.Common.{◌≡◌, ◌∙◌, sym, subst, refl, ℕ, ◌<◌, inl, inr, ◌⊎◌, Bool, true, false, List, [], ◌∷◌, Option, lt_irrefl, lt_trans}
use Rattle.std.specs.Prelude.{◌==◌}
use Rattle.std.proofs.lemmas.Bool.{eqb-true}
use Rattle.unit_id.specs.Lists.{IsIn, is_in}
use Rattle.unit_id.specs.Shown.{Shown}
use Rattle.unit_id.proofs.Bools.{equal_test}
use Rattle.unit_id.proofs.Membership.{any_gives, gives_any}
use Rattle.blob_node.specs.Units.{RowState}
use Rattle.blob_node.specs.UnitAnswer.{AreAscending, IsListing}

-- a number of a list is in it
found : (n : ℕ) (xs : List ℕ) → is_in n xs ≡ true → IsIn n xs
found n xs h = let one = any_gives (λ m. n == m) xs h in subst (λ m. IsIn m xs) (sym (eqb-true n one.0 one.2)) one.1

told : (n : ℕ) (xs : List ℕ) → IsIn n xs → is_in n xs ≡ true
told n xs i = gives_any (λ m. n == m) xs n i (equal_test n n refl)

-- what is in one of two lists of the same numbers is in the other
across : (xs ys : List ℕ) → ((n : ℕ) → is_in n xs ≡ is_in n ys) → (n : ℕ) → IsIn n xs → IsIn n ys
across xs ys same n i = found n ys (sym (same n) ∙ told n xs i)

first_same : (x y : ℕ) → (x ≡ y) ⊎ (y < x) → (y ≡ x) ⊎ (x < y) → x ≡ y
first_same x y (inl e) k = e
first_same x y (inr h) (inl e) = sym e
first_same x y (inr h) (inr k) = absurd (lt_irrefl x (lt_trans k h))

where_found : (x y : ℕ) (ys : List ℕ) → ((n : ℕ) → IsIn n ys → y < n) → IsIn x (y ∷ ys) → (x ≡ y) ⊎ (y < x)
where_found x y ys above (inl e) = inl e
where_found x y ys above (inr i) = inr (above x i)

same_bools : (a b : Bool) → (a ≡ true → b ≡ true) → (b ≡ true → a ≡ true) → a ≡ b
same_bools true b h k = sym (h refl)
same_bools false true h k = k refl
same_bools false false h k = refl

behind : (x y : ℕ) (xs ys : List ℕ) → x ≡ y → ((n : ℕ) → IsIn n xs → x < n) → ((n : ℕ) → IsIn n (x ∷ xs) → IsIn n (y ∷ ys)) → (n : ℕ) → IsIn n xs → IsIn n ys
behind x y xs ys e above over n i = go (over n (inr i)) where
  go : IsIn n (y ∷ ys) → IsIn n ys
  go (inl at) = absurd (lt_irrefl n (subst (λ k. k < n) (e ∙ sym at) (above n i)))
  go (inr there) = there

pub same_ascending : (xs ys : List ℕ) → AreAscending xs → AreAscending ys → ((n : ℕ) → is_in n xs ≡ is_in n ys) → xs ≡ ys
same_ascending [] [] h k same = refl
same_ascending [] (y ∷ ys) h k same = absurd (across (y ∷ ys) [] (λ n. sym (same n)) y (inl refl))
same_ascending (x ∷ xs) [] h k same = absurd (across (x ∷ xs) [] same x (inl refl))
same_ascending (x ∷ xs) (y ∷ ys) h k same =
    let over = across (x ∷ xs) (y ∷ ys) same in
    let back = across (y ∷ ys) (x ∷ xs) (λ n. sym (same n)) in
    let first = first_same x y (where_found x y ys k.0 (over x (inl refl))) (where_found y x xs h.0 (back y (inl refl))) in
    let rest = same_ascending xs ys h.1 k.1 (λ n. same_bools (is_in n xs) (is_in n ys)
    (λ i. told n ys (behind x y xs ys first h.0 over n (found n xs i)))
    (λ i. told n xs (behind y x ys xs (sym first) k.0 back n (found n ys i)))) in
    λ i. first i ∷ rest i

pub same_listing : (row : ℕ → Option RowState) (a b : Shown) → IsListing row a → IsListing row b → a ≡ b
same_listing row a b h k =
    let live = same_ascending a.live b.live h.live_order k.live_order (λ n. h.live n ∙ sym (k.live n)) in
    let marked = same_ascending a.marked b.marked h.marked_order k.marked_order (λ n. h.marked n ∙ sym (k.marked n)) in
    λ i. record { live = live i; marked = marked i }
