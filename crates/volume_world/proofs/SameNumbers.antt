-- Whether two numbers are the same.
use Rattle.std.proofs.Common.{◌≡◌, sym, refl, ℕ, Bool, true, false, ◌==◌, nat_eq, eqb-true, eq-eqb}

flipped_test : (a b : ℕ) (t : Bool) → (b == a) ≡ t → nat_eq a b ≡ false → t ≡ false
flipped_test a b false h e = refl
flipped_test a b true h e = cc (eq-eqb a b (sym (eqb-true b a h)))

pub flipped : (a b : ℕ) → nat_eq a b ≡ false → (b == a) ≡ false
flipped a b e = flipped_test a b (b == a) refl e

pub same_here : (a : ℕ) → (a == a) ≡ true
same_here a = eq-eqb a a refl
