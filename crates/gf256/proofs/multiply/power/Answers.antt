use Rattle.std.proofs.Common.{◌≡◌, ℕ, ◌%◌, ◌/◌, ◌∙◌, sym, ap, arith}
use Rattle.gf256.specs.Field.{product, power_of}
use Rattle.gf256.proofs.Products.{product-one_left, product-one_right, product_assoc, product-below, power_of-below, power_of-even, power_of-odd}
use Rattle.gf256.proofs.multiply.power.Goals.{then-left-eq1, else-left-eq1}
use Rattle.gf256.proofs.multiply.power.Goals as goal

pub loop-left-init : goal.loop-left-init
loop-left-init c = (product-one_left (power_of c.args.a c.args.k) (power_of-below c.args.a c.args.k), omega arith)

odd_step : (d s n p : ℕ) → product d (power_of s n) ≡ p → n % 2 ≡ 1 → product (product d s) (power_of (product s s) (n / 2)) ≡ p
odd_step d s n p h e =
    product_assoc d s (power_of (product s s) (n / 2)) ∙ ap (product d) (sym (power_of-odd s n e)) ∙ h

even_step : (d s n p : ℕ) → product d (power_of s n) ≡ p → n % 2 ≡ 0 → product d (power_of (product s s) (n / 2)) ≡ p
even_step d s n p h e = ap (product d) (sym (power_of-even s n e)) ∙ h

pub loop-left-preserved : goal.loop-left-preserved
loop-left-preserved c = elim c.if-left-eq1.branch [
  | then-left-eq1 w ↦ rw (w.done-is, w.mul-done.ensures.value, c.mul-square.ensures.value)
      (odd_step c.loop-left.done c.loop-left.square c.loop-left.left (power_of c.args.a c.args.k) c.loop-left.invariant.0 w.if-left-eq1.true, product-below c.loop-left.done c.loop-left.square)
  | else-left-eq1 w ↦ rw (w.done-is, c.mul-square.ensures.value)
      (even_step c.loop-left.done c.loop-left.square c.loop-left.left (power_of c.args.a c.args.k) c.loop-left.invariant.0 (omega arith), c.loop-left.invariant.1)
]

pub returns : goal.returns
unfolding power_of
returns c =
    let none : c.loop-left.left ≡ 0 = omega arith in
    sym (product-one_right c.loop-left.done c.loop-left.invariant.1)
    ∙ ap (λ x. product c.loop-left.done (power_of c.loop-left.square x)) (sym none)
    ∙ c.loop-left.invariant.0
