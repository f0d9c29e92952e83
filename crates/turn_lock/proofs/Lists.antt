-- Beginnings of lists, how often numbers stand in them, and sums over a list of which one element changes.
use Rattle.std.proofs.Common.{◌≡◌, ℕ, zero, suc, ◌+◌, ◌<◌, ◌≤◌, ◌==◌, List, [], ◌∷◌, ◌++◌, length, set, Bool, true, false, cond, nat_lt, sum_by, refl, sym, ap, ◌∙◌, ◌⊎◌, inl, inr, arith, append_assoc, length-append, lt-ltb, le-ltb, eq-eqb, ne_eqb, zero-add}
use Rattle.std.proofs.lemmas.List.Sums.{sum_by-cons, sum_by-append}
use Rattle.std.specs.List.{range_with_len}
use mathlib.Core.Logic.{dite}
use mathlib.Core.List.{IsPrefix}
use mathlib.Core.Option.{some, some-ne-none, some-injective}
use native.Mathlib.Decide.{ℕ_discrete, dec_le}
use lib.ListN.{get_elem?}
use Rattle.turn_lock.specs.Known.{times, once_below, longer, shorter}

module _ {A : Type 0} where
  pub begins_itself : (xs : List A) → IsPrefix xs xs
  begins_itself [] = ([], refl)
  begins_itself (x ∷ xs) = let r = begins_itself xs in (r.0, ap (λ l. x ∷ l) r.1)

  pub begins_through : (xs ys zs : List A) → IsPrefix xs ys → IsPrefix ys zs → IsPrefix xs zs
  begins_through xs ys zs p q = (p.0 ++ q.0, sym (append_assoc xs p.0 q.0) ∙ (ap (λ l. l ++ q.0) p.1 ∙ q.1))

  pub beginning_length : (xs ys : List A) → IsPrefix xs ys → length xs ≤ length ys
  beginning_length xs ys p = omega (arith, length-append xs p.0, ap length p.1)

  -- of two beginnings of one list the one that isn't longer begins the other
  pub begins_other : (xs ys zs : List A) → IsPrefix xs zs → IsPrefix ys zs → length xs ≤ length ys → IsPrefix xs ys
  begins_other [] ys zs p q le = (ys, refl)
  begins_other (x ∷ xs) [] zs p q le = absurd (omega arith)
  begins_other (x ∷ xs) (y ∷ ys) [] p q le = absurd (cc (p.1))
  begins_other (x ∷ xs) (y ∷ ys) (z ∷ zs) p q le =
      let heads : x ≡ y = cc (p.1, q.1) in
      let r = begins_other xs ys zs (p.0, cc (p.1)) (q.0, cc (q.1)) (omega arith) in
      (r.0, cc (heads, r.1))

  pub whole_beginning : (xs ys : List A) → IsPrefix xs ys → length ys ≤ length xs → xs ≡ ys
  whole_beginning [] [] p le = refl
  whole_beginning [] (y ∷ ys) p le = absurd (omega arith)
  whole_beginning (x ∷ xs) [] p le = absurd (cc (p.1))
  whole_beginning (x ∷ xs) (y ∷ ys) p le =
      let tails = whole_beginning xs ys (p.0, cc (p.1)) (omega arith) in
      let heads : x ≡ y = cc (p.1) in
      cc (heads, tails)

  pub at_written : (l : List A) (i : ℕ) (v w : A) → get_elem? l i ≡ some v → get_elem? (set l i w) i ≡ some w
  at_written [] i v w e = absurd (some-ne-none v (sym e))
  at_written (x ∷ xs) zero v w e = refl
  at_written (x ∷ xs) (suc i) v w e = at_written xs i v w e

  pub sum_written : (f : A → ℕ) (l : List A) (i : ℕ) (v w : A) → get_elem? l i ≡ some v → sum_by f (set l i w) + f v ≡ sum_by f l + f w
  sum_written f [] i v w e = absurd (some-ne-none v (sym e))
  sum_written f (x ∷ xs) zero v w e = let same : f x ≡ f v = ap f (some-injective x v e) in omega (arith, sum_by-cons f w xs, sum_by-cons f x xs, same)
  sum_written f (x ∷ xs) (suc i) v w e = omega (arith, sum_by-cons f x (set xs i w), sum_by-cons f x xs, sum_written f xs i v w e)

  pub part_le : (f : A → ℕ) (l : List A) (i : ℕ) (v : A) → get_elem? l i ≡ some v → f v ≤ sum_by f l
  part_le f [] i v e = absurd (some-ne-none v (sym e))
  part_le f (x ∷ xs) zero v e = let same : f x ≡ f v = ap f (some-injective x v e) in omega (arith, sum_by-cons f x xs, same)
  part_le f (x ∷ xs) (suc i) v e = omega (arith, sum_by-cons f x xs, part_le f xs i v e)

  none_left : (f g : A → ℕ) (l : List A) → ((j : ℕ) (u : A) → get_elem? l j ≡ some u → f u ≡ 0 → g u ≡ 0) → sum_by f l ≡ 0 → sum_by g l ≡ 0
  none_left f g [] h s = refl
  none_left f g (x ∷ xs) h s =
      let head : g x ≡ 0 = h 0 x refl (omega (arith, sum_by-cons f x xs)) in
      let tail : sum_by g xs ≡ 0 = none_left f g xs (λ j u e. h (suc j) u e) (omega (arith, sum_by-cons f x xs)) in
      omega (arith, sum_by-cons g x xs, head, tail)

  -- where one element has all of f, and g is 0 where f is, that element has all of g
  pub has_all : (f g : A → ℕ) (l : List A) (i : ℕ) (v : A) → get_elem? l i ≡ some v → ((j : ℕ) (u : A) → get_elem? l j ≡ some u → f u ≡ 0 → g u ≡ 0) → sum_by f l ≡ f v → sum_by g l ≡ g v
  has_all f g [] i v e h s = absurd (some-ne-none v (sym e))
  has_all f g (x ∷ xs) zero v e h s =
      let same = some-injective x v e in
      let same_f : f x ≡ f v = ap f same in
      let same_g : g x ≡ g v = ap g same in
      let tail : sum_by g xs ≡ 0 = none_left f g xs (λ j u e'. h (suc j) u e') (omega (arith, sum_by-cons f x xs, same_f)) in
      omega (arith, sum_by-cons g x xs, same_g, tail)
  has_all f g (x ∷ xs) (suc i) v e h s =
      let part = part_le f xs i v e in
      let head : g x ≡ 0 = h 0 x refl (omega (arith, sum_by-cons f x xs)) in
      let tail : sum_by g xs ≡ g v = has_all f g xs i v e (λ j u e'. h (suc j) u e') (omega (arith, sum_by-cons f x xs)) in
      omega (arith, sum_by-cons g x xs, head, tail)

pub is_below : (x n : ℕ) → x < n → once_below x n ≡ 1
is_below x n lt = rw (lt-ltb x n lt) refl

pub is_past : (x n : ℕ) → n ≤ x → once_below x n ≡ 0
is_past x n le = rw (le-ltb x n le) refl

pub times-append : (x : ℕ) (xs ys : List ℕ) → times x (xs ++ ys) ≡ times x xs + times x ys
times-append x xs ys = sum_by-append (λ y. cond (y == x) 1 0) xs ys

one_more : (x a : ℕ) → cond (a == x) 1 0 + once_below x a ≡ once_below x (a + 1)
one_more x a = dite (ℕ_discrete a x)
    (λ same. rw (eq-eqb a x same, is_past x a (omega arith), is_below x (a + 1) (omega arith)) refl)
    (λ other. rw (ne_eqb a x other) (zero-add (once_below x a) ∙ dite (dec_le (suc x) a)
    (λ lt. is_below x a (omega arith) ∙ sym (is_below x (a + 1) (omega arith)))
    (λ not_lt. is_past x a (omega arith) ∙ sym (is_past x (a + 1) (omega arith)))))

pub times-range : (x a n : ℕ) → times x (range_with_len a n) + once_below x a ≡ once_below x (a + n)
times-range x a zero = zero-add (once_below x a) ∙ ap (once_below x) (sym here)
  where
    here : a + 0 ≡ a
    here = omega arith
times-range x a (suc n) =
    let head = sum_by-cons (λ y. cond (y == x) 1 0) a (range_with_len (a + 1) n) in
    let tail = times-range x (a + 1) n in
    let one = one_more x a in
    let end : (a + 1) + n ≡ a + suc n = omega arith in
    let sum : times x (range_with_len a (suc n)) + once_below x a ≡ once_below x ((a + 1) + n) = omega (arith, head, tail, one) in
    sum ∙ ap (once_below x) end

module _ {E : Type 0} where
  picked : (P : List E → Type 0) (xs ys : List E) (b : Bool) → P xs → P ys → P (cond b ys xs)
  picked P xs ys true p q = q
  picked P xs ys false p q = p

  -- what holds of both lists holds of the longer and of the shorter one
  pub of_longer : (P : List E → Type 0) (xs ys : List E) → P xs → P ys → P (longer xs ys)
  of_longer P xs ys p q = picked P xs ys (nat_lt (length xs) (length ys)) p q

  pub of_shorter : (P : List E → Type 0) (xs ys : List E) → P xs → P ys → P (shorter xs ys)
  of_shorter P xs ys p q = picked P ys xs (nat_lt (length xs) (length ys)) q p

  pub longer_length : (xs ys : List E) → (length xs ≤ length (longer xs ys)) × (length ys ≤ length (longer xs ys))
  longer_length xs ys = dite (dec_le (suc (length xs)) (length ys))
      (λ lt. rw (lt-ltb (length xs) (length ys) lt) (omega arith, omega arith))
      (λ not_lt. rw (le-ltb (length xs) (length ys) (omega arith)) (omega arith, omega arith))

  -- where the shorter list begins the longer one, both begin it, and one begins the other
  pub one_begins : (xs ys : List E) → IsPrefix (shorter xs ys) (longer xs ys)
      → (IsPrefix xs (longer xs ys) × IsPrefix ys (longer xs ys)) × (IsPrefix xs ys ⊎ IsPrefix ys xs)
  one_begins xs ys = by_test (nat_lt (length xs) (length ys))
    where
      by_test : (b : Bool) → IsPrefix (cond b xs ys) (cond b ys xs) → (IsPrefix xs (cond b ys xs) × IsPrefix ys (cond b ys xs)) × (IsPrefix xs ys ⊎ IsPrefix ys xs)
      by_test true p = ((p, begins_itself ys), inl p)
      by_test false p = ((begins_itself xs, p), inr p)

  pub shorter_length : (xs ys : List E) → length (shorter xs ys) ≤ length (longer xs ys)
  shorter_length xs ys = let l = longer_length xs ys in of_shorter (λ l. length l ≤ length (longer xs ys)) xs ys l.0 l.1
