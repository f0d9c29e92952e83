use Rattle.std.proofs.Common.{arith}
use Rattle.gf256.proofs.Filled.{filled_more}
use Rattle.gf256.proofs.kernel.fill_one.Goals as goal

pub loop-k-preserved : goal.loop-k-preserved
loop-k-preserved c =
    filled_more c.args.p_row.now c.args.sources.now c.args.from c.loop-k.k c.args.p.now c.loop-k.p c.store.new.out c.sums_of_one-sums.result.first c.sums_of_one-sums.result.second c.store.ensures c.sums_of_one-sums.ensures (omega arith) c.loop-k.invariant
