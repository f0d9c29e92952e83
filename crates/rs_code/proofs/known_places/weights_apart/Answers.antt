use Rattle.std.proofs.Common.{◌∙◌, ap, get_or, arith}
use Rattle.rs_code.specs.ShardValue.{quotient}
use Rattle.rs_code.proofs.Differences.{row_more}
use Rattle.rs_code.proofs.known_places.weights_apart.Goals as goal

pub loop-k-preserved : goal.loop-k-preserved
loop-k-preserved c =
    row_more c.args.places.now c.args.products.now c.loop-k.row.items c.push.new.self.items c.args.r c.loop-k.k c.product_of_differences-whole.result c.divided-in-loop-k.result c.requires.products c.requires.ascending
    c.requires.apart c.ranges.r.fits (λ k. (c.type_inv.places k).fits) (omega arith) c.product_of_differences-whole.ensures
    (c.divided-in-loop-k.ensures ∙ ap (λ q. quotient q (get_or c.args.products.now c.loop-k.k 0)) c.divided.ensures) c.in_ok-push.ensures.items c.loop-k.invariant
