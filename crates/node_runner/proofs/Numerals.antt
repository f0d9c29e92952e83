-- What a few digits of a number have to do with all of them.
use Rattle.std.proofs.Common.{◌≡◌, ℕ, zero, suc, ◌+◌, ◌*◌, ◌<◌, ◌≤◌, nat_lt, true, false, if◌then◌else◌, Some, None, List, [], ◌∷◌, take, length, refl, sym, ap, arith}
use Rattle.std.proofs.lemmas.Option.{none-some, cond_some}
use Rattle.std.proofs.lemmas.Bool.{lt-ltb, le-ltb, ltb-true, ltb-false}
use Rattle.std.proofs.lemmas.List.{take_all}
use Rattle.std.specs.Char.{digit_value}
use Rattle.std.specs.Str.Parse.{digits_value, digits_value_after}

grows : (n : ℕ) (digits : List ℕ) → n ≤ digits_value_after 10 n digits
grows n [] = omega arith
grows n (c ∷ digits) = omega (arith, grows (n * 10 + digit_value c) digits)

front_after : (n i : ℕ) (digits : List ℕ) → digits_value_after 10 n (take i digits) ≤ digits_value_after 10 n digits
front_after n i [] = elim i as (λ i. digits_value_after 10 n (take i []) ≤ n) [ zero ↦ omega arith | suc j ↦ omega arith ]
front_after n zero (c ∷ digits) = grows n (c ∷ digits)
front_after n (suc i) (c ∷ digits) = front_after (n * 10 + digit_value c) i digits

-- the first digits have no greater value
pub front_value : (digits : List ℕ) (i : ℕ) → digits_value 10 (take i digits) ≤ digits_value 10 digits
front_value digits i = front_after 0 i digits

-- a number that is refused isn't below the limit
pub refused : (limit n : ℕ) → (if nat_lt n limit then Some n else None) ≡ None → limit ≤ n
refused limit n none = elim (nat_lt n limit) as (λ b. nat_lt n limit ≡ b → (if b then Some n else None) ≡ None → limit ≤ n) [
  | true ↦ λ _ e. absurd (none-some n (sym e))
  | false ↦ λ test _. ltb-false n limit test
] refl none

-- one that is taken is the number
pub taken : (limit n m : ℕ) → (if nat_lt n limit then Some n else None) ≡ Some m → n ≡ m
taken limit n m some = (cond_some (nat_lt n limit) n m some).1

pub taken_below : (limit n m : ℕ) → (if nat_lt n limit then Some n else None) ≡ Some m → m < limit
taken_below limit n m some = omega (arith, ltb-true n limit (cond_some (nat_lt n limit) n m some).0, taken limit n m some)

pub digits_all : (digits : List ℕ) (i : ℕ) → length digits ≤ i → digits_value 10 (take i digits) ≡ digits_value 10 digits
digits_all digits i all = ap (λ ds. digits_value 10 ds) (take_all i digits all)

pub below_limit : (limit n : ℕ) → n < limit → (if nat_lt n limit then Some n else None) ≡ Some n
below_limit limit n below = rw (lt-ltb n limit below) refl

pub above_limit : (limit n : ℕ) → limit ≤ n → (if nat_lt n limit then Some n else None) ≡ None
above_limit limit n above = rw (le-ltb n limit above) refl
