-- Counts of the first numbers that pass a test: quorums share a unit.
use Rattle.std.proofs.Common.{◌≡◌, ℕ, zero, suc, ◌+◌, ◌<◌, ◌≤◌, ◌⊎◌, inl, inr, Bool, true, false, refl, ◌∙◌, ap, cond, arith}
use Rattle.std.specs.Prelude.{◌||◌, eqb}
use Rattle.std.proofs.lemmas.Bool.{eqb-true, eqb-false}
use Rattle.unit_id.proofs.Bools.{or_none}
use Rattle.unit_id.specs.Lists.{count_below, some_below}

-- what passes one test passes the other
pub count_more : (n : ℕ) (f g : ℕ → Bool) → ((i : ℕ) → i < n → f i ≡ true → g i ≡ true) → count_below n f ≤ count_below n g
count_more zero f g h = omega arith
count_more (suc n) f g h = go (f n) (g n) (h n (omega arith)) (count_more n f g (λ i below. h i (omega arith))) where
  go : (a b : Bool) → (a ≡ true → b ≡ true) → count_below n f ≤ count_below n g → cond a 1 0 + count_below n f ≤ cond b 1 0 + count_below n g
  go true true h k = omega arith
  go true false h k = let e = h refl in cc
  go false true h k = omega arith
  go false false h k = omega arith

-- what passes one test passes one of two others
pub count_either : (n : ℕ) (f g h : ℕ → Bool) → ((i : ℕ) → i < n → f i ≡ true → (g i ≡ true) ⊎ (h i ≡ true)) → count_below n f ≤ count_below n g + count_below n h
count_either zero f g h k = omega arith
count_either (suc n) f g h k = go (f n) (g n) (h n) (k n (omega arith)) (count_either n f g h (λ i below. k i (omega arith))) where
  go : (a b c : Bool) → (a ≡ true → (b ≡ true) ⊎ (c ≡ true)) → count_below n f ≤ count_below n g + count_below n h
      → cond a 1 0 + count_below n f ≤ (cond b 1 0 + count_below n g) + (cond c 1 0 + count_below n h)
  go false b c k e = omega arith
  go true true c k e = omega arith
  go true false true k e = omega arith
  go true false false k e = elim (k refl) [ inl x ↦ cc | inr x ↦ cc ]

-- two tests that no number passes both
pub count_apart : (n : ℕ) (f g : ℕ → Bool) → ((i : ℕ) → i < n → f i ≡ true → g i ≡ true → ⊥) → count_below n f + count_below n g ≤ n
count_apart zero f g h = omega arith
count_apart (suc n) f g h = go (f n) (g n) (h n (omega arith)) (count_apart n f g (λ i below. h i (omega arith))) where
  go : (a b : Bool) → (a ≡ true → b ≡ true → ⊥) → count_below n f + count_below n g ≤ n → (cond a 1 0 + count_below n f) + (cond b 1 0 + count_below n g) ≤ suc n
  go true true h k = absurd (h refl refl)
  go true false h k = omega arith
  go false true h k = omega arith
  go false false h k = omega arith

apart : (i n : ℕ) → i < suc n → (i ≡ n → ⊥) → i < n
apart i n below other = omega arith

-- where no number passes
pub some_counted : (n : ℕ) (f : ℕ → Bool) → some_below n f ≡ false → (i : ℕ) → i < n → f i ≡ false
some_counted zero f h i below = absurd (omega arith)
some_counted (suc n) f h i below = go (eqb i n) refl (some_counted n f (or_none (f n) (some_below n f) h).1 i) where
  go : (b : Bool) → eqb i n ≡ b → (i < n → f i ≡ false) → f i ≡ false
  go true e rest = ap f (eqb-true i n e) ∙ (or_none (f n) (some_below n f) h).0
  go false e rest = let other = eqb-false i n e in rest (apart i n below other)

-- none passes where each doesn't
pub none_counted : (n : ℕ) (f : ℕ → Bool) → ((i : ℕ) → i < n → f i ≡ true → ⊥) → some_below n f ≡ false
none_counted zero f h = refl
none_counted (suc n) f h = go (f n) (h n (omega arith)) (none_counted n f (λ i below. h i (omega arith))) where
  go : (a : Bool) → (a ≡ true → ⊥) → some_below n f ≡ false → a || some_below n f ≡ false
  go true h k = absurd (h refl)
  go false h k = k

-- some passes where the count isn't 0
pub counted_some : (n : ℕ) (f : ℕ → Bool) → 1 ≤ count_below n f → some_below n f ≡ true
counted_some zero f h = absurd (omega arith)
counted_some (suc n) f h = go (f n) h (counted_some n f) where
  go : (a : Bool) → 1 ≤ cond a 1 0 + count_below n f → (1 ≤ count_below n f → some_below n f ≡ true) → a || some_below n f ≡ true
  go true h k = refl
  go false h k = k (omega arith)
