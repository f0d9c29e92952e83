use Rattle.std.proofs.Common.{◌≡◌, ℕ, zero, suc, ◌+◌, ◌∷◌, refl, ap, subst, arith}
use Rattle.std.specs.List.{range_with_len}
use mathlib.Core.List.{IsPrefix}
use Rattle.blob_bench.proofs.turns.Steps.step.Goals as goal

-- as many numbers from a on, and one more
one_more : (a n : ℕ) → IsPrefix (range_with_len a n) (range_with_len a (n + 1))
one_more a zero = (range_with_len a 1, refl)
one_more a (suc n) =
    let r = one_more (a + 1) n in
    let same : suc (n + 1) ≡ suc n + 1 = omega arith in
    subst (λ (m : ℕ). IsPrefix (range_with_len a (suc n)) (range_with_len a m)) same (r.0, ap (λ l. a ∷ l) r.1)

pub returns-then-self-lt18446744073709551615 : goal.returns-then-self-lt18446744073709551615
returns-then-self-lt18446744073709551615 c = one_more 0 c.args.self.now.count
