use Rattle.std.proofs.Common.{arith}
use Rattle.shard_record.proofs.Windows.{fold_more}
use Rattle.shard_record.proofs.folding.fold.Goals as goal

pub loop-k-preserved : goal.loop-k-preserved
loop-k-preserved c =
    fold_more c.args.bytes.now c.args.window.now c.loop-k.window c.folded-block.result c.loop-k.k c.loop-k.invariant
    (record { long = c.folded-block.ensures.long; each = c.folded-block.ensures.each }) (omega arith)
