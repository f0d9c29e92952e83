use Rattle.std.proofs.Common.{arith}
use Rattle.gf256.proofs.Products.{product-one_left, product-below}
use Rattle.rs_code.specs.Differences.{differences}
use Rattle.rs_code.proofs.Differences.{differences-below, differences_step_same, differences_step_other, differences_end}
use Rattle.rs_code.proofs.known_places.product_of_differences.Goals.{then-z-x, else-z-x}
use Rattle.rs_code.proofs.known_places.product_of_differences.Goals as goal

pub loop-z-init : goal.loop-z-init
loop-z-init c = record {
  whole = product-one_left (differences c.args.places.now c.args.x c.args.r) (differences-below c.args.places.now c.args.x c.args.r);
  byte = omega arith;
}

pub loop-z-preserved : goal.loop-z-preserved
loop-z-preserved c = elim c.if-z-x.branch [
  | then-z-x w ↦ rw (w.product-is, w.mul-product.ensures.value) (record {
    whole = differences_step_other c.args.places.now c.loop-z.z-index c.args.x c.args.r c.loop-z.product _ (omega arith) w.if-z-x.true c.loop-z.invariant.whole;
    byte = product-below _ _;
  })
  | else-z-x w ↦ rw w.product-is (record {
    whole = differences_step_same c.args.places.now c.loop-z.z-index c.args.x c.args.r c.loop-z.product _ (omega arith) w.if-z-x.false c.loop-z.invariant.whole;
    byte = c.loop-z.invariant.byte;
  })
]

pub returns : goal.returns
returns c =
    differences_end c.args.places.now c.loop-z.z-index c.args.x c.args.r c.loop-z.product _ (omega arith) c.loop-z.invariant.byte c.loop-z.invariant.whole
