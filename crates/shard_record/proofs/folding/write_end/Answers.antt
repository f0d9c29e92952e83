use Rattle.std.proofs.Common.{◌≡◌, ◌∙◌, ap, ◌+◌, ◌*◌, get_or, bit_xor, arith}
use Rattle.shard_record.specs.Folding.{lower_exponents, sum_behind}
use Rattle.shard_record.proofs.Windows.{end_more}
use Rattle.shard_record.proofs.folding.write_end.Goals as goal

pub loop-k-preserved : goal.loop-k-preserved
loop-k-preserved c =
    let place : 16 * (c.args.blocks + c.loop-k.k) ≡ 16 * c.args.blocks + 16 * c.loop-k.k = omega arith in
    end_more c.args.bytes.now c.args.window.now c.loop-k.end c.folded-block.result (16 * c.args.blocks) c.loop-k.k c.loop-k.invariant
    (record { long = c.folded-block.ensures.long; each = λ i lt. c.folded-block.ensures.each i lt ∙ ap (λ p. bit_xor (get_or c.args.bytes.now (p + i) 0) (sum_behind lower_exponents c.args.window.now (p + i))) place }) c.loop-k-test.true
