use Rattle.std.proofs.Common.{refl, arith}
use Rattle.gf256.proofs.Scaled.{scaled_block, scaled_byte, scaled_all}
use Rattle.gf256.proofs.scale.scale_add.Goals as goal

pub loop-k-preserved : goal.loop-k-preserved
loop-k-preserved c =
    scaled_block c.args.by c.loop-k.k c.args.src.now c.args.out.now c.loop-k.out c.block_at-in-loop-k.result c.block_at.result c.plus_products-sums.result c.loop-k.invariant (omega arith)
    c.block_at-in-loop-k.ensures c.block_at.ensures (c.plus_products-sums.ensures.added c.args.by c.halves_of-halves.ensures.products)

pub loop-k-2-preserved : goal.loop-k-2-preserved
loop-k-2-preserved c =
    scaled_byte c.args.by c.loop-k-2.k _ c.args.src.now c.args.out.now c.loop-k-2.out _ c.halves_of-halves.result.low c.halves_of-halves.result.high c.loop-k-2.invariant (omega arith) (omega arith)
    c.halves_of-halves.ensures.products refl refl

pub returns : goal.returns
returns c = scaled_all c.args.by c.loop-k-2.k c.args.src.now c.args.out.now c.loop-k-2.out c.requires (omega arith) c.loop-k-2.invariant
