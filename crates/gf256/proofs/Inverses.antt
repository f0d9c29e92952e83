-- `inverse_of`, and the table of inverses.
use Rattle.std.proofs.Common.{◌≡◌, ℕ, zero, suc, ◌%◌, ◌<◌, ◌≤◌, refl, sym, ◌∙◌, ap, arith, Bool, true, false, get_or}
use Rattle.std.specs.Prelude.{◌==◌, cond, ◌≢◌}
use Rattle.std.proofs.lemmas.Bool.{eqb-true, eq-eqb}
use Rattle.gf256.specs.declared.invert.TheConstants.{INVERSES}
use Rattle.gf256.specs.Field.{times_x, horner, product, inverse_below, inverse_of}
use Rattle.gf256.proofs.Products.{product_comm, product_assoc, product-zero_left, product-zero_right, product-one_left, product-one_right}
use Rattle.gf256.proofs.Remainder.{equal_below}

table_inverts_next : (k : ℕ) → k < 255 → product (suc k) (get_or INVERSES (suc k) 0) ≡ 1
unfolding product horner times_x
table_inverts_next = equal_below (λ k. product (suc k) (get_or INVERSES (suc k) 0)) (λ k. 1) 255 refl

pub same_inverse : (a x y : ℕ) → x < 256 → y < 256 → product a x ≡ 1 → product a y ≡ 1 → x ≡ y
same_inverse a x y p q e f =
    sym (product-one_left x p)
    ∙ ap (λ z. product z x) (sym f ∙ product_comm a y)
    ∙ product_assoc y a x
    ∙ ap (product y) e
    ∙ product-one_right y q

found_below : (n a b : ℕ) → b < n → product a b ≡ 1 → product a (inverse_below n a) ≡ 1
unfolding inverse_below
found_below zero a b p e = absurd (omega arith)
found_below (suc n) a b p e = go (product a n == 1) refl (λ q. found_below n a b q e)
  where
    go : (t : Bool) → (product a n == 1) ≡ t → (b < n → product a (inverse_below n a) ≡ 1) → product a (cond t n (inverse_below n a)) ≡ 1
    go true h before = eqb-true (product a n) 1 h
    go false h before =
        let other : b ≢ n = λ same. let one : (product a n == 1) ≡ true = eq-eqb (product a n) 1 (ap (product a) (sym same) ∙ e) in cc in
        before (omega arith)

inverse_below-below : (n m a : ℕ) → n ≤ suc m → inverse_below n a < suc m
unfolding inverse_below
inverse_below-below zero m a p = omega arith
inverse_below-below (suc n) m a p = go (product a n == 1) (inverse_below-below n m a (omega arith))
  where
    go : (t : Bool) → inverse_below n a < suc m → cond t n (inverse_below n a) < suc m
    go true before = p
    go false before = before

pub inverse_of-below : (a : ℕ) → inverse_of a < 256
unfolding inverse_of
inverse_of-below a = inverse_below-below 256 255 a (omega arith)

same_at_any_default : (d k : ℕ) → k < 256 → get_or INVERSES k d ≡ get_or INVERSES k 0
same_at_any_default d = equal_below (λ k. get_or INVERSES k d) (λ k. get_or INVERSES k 0) 256 refl

bytes_of_table : (k : ℕ) → k < 256 → get_or INVERSES k 0 % 256 ≡ get_or INVERSES k 0
bytes_of_table = equal_below (λ k. get_or INVERSES k 0 % 256) (λ k. get_or INVERSES k 0) 256 refl

table_inverts : (a : ℕ) → 0 < a → a < 256 → product a (get_or INVERSES a 0) ≡ 1
table_inverts zero p q = absurd (omega arith)
table_inverts (suc k) p q = table_inverts_next k (omega arith)

pub product-inverse_of : (a : ℕ) → 0 < a → a < 256 → product a (inverse_of a) ≡ 1
unfolding inverse_of
product-inverse_of a p q =
    let byte : get_or INVERSES a 0 < 256 = omega (arith, bytes_of_table a q) in
    found_below 256 a (get_or INVERSES a 0) byte (table_inverts a p q)

pub table_is_inverse : (a d : ℕ) → 0 < a → a < 256 → get_or INVERSES a d ≡ inverse_of a
table_is_inverse a d p q =
    let byte : get_or INVERSES a 0 < 256 = omega (arith, bytes_of_table a q) in
    same_at_any_default d a q
    ∙ same_inverse a (get_or INVERSES a 0) (inverse_of a) byte (inverse_of-below a) (table_inverts a p q) (product-inverse_of a p q)

inverse_below-zero : (n : ℕ) → inverse_below n 0 ≡ 0
unfolding inverse_below
inverse_below-zero zero = refl
inverse_below-zero (suc n) = ap (λ x. cond (x == 1) n (inverse_below n 0)) (product-zero_left n) ∙ inverse_below-zero n

pub inverse_of-zero : inverse_of 0 ≡ 0
unfolding inverse_of
inverse_of-zero = inverse_below-zero 256

-- a factor that is not 0 can be taken away
pub zero_from_product : (a b : ℕ) → 0 < a → a < 256 → b < 256 → product a b ≡ 0 → b ≡ 0
zero_from_product a b p q r e =
    sym (product-one_left b r)
    ∙ ap (λ x. product x b) (sym (product-inverse_of a p q) ∙ product_comm a (inverse_of a))
    ∙ product_assoc (inverse_of a) a b
    ∙ ap (product (inverse_of a)) e
    ∙ product-zero_right (inverse_of a)

pub table_gives_one : (a d : ℕ) → 0 < a → a < 256 → product a (get_or INVERSES a d) ≡ 1
table_gives_one a d p q = ap (product a) (table_is_inverse a d p q) ∙ product-inverse_of a p q
