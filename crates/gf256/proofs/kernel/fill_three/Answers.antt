use Rattle.std.proofs.Common.{arith}
use Rattle.gf256.proofs.Filled.{filled_more}
use Rattle.gf256.proofs.kernel.fill_three.Goals as goal

pub loop-k-preserved : goal.loop-k-preserved
loop-k-preserved c = record {
  p = filled_more c.args.p_row.now c.args.sources.now c.args.from c.loop-k.k c.args.p.now c.loop-k.p c.store.new.out c.sums_of_three-sums.result.p.first c.sums_of_three-sums.result.p.second c.store.ensures c.sums_of_three-sums.ensures.p (omega arith) c.loop-k.invariant.p;
  q = filled_more c.args.q_row.now c.args.sources.now c.args.from c.loop-k.k c.args.q.now c.loop-k.q c.store-in-loop-k.new.out c.sums_of_three-sums.result.q.first c.sums_of_three-sums.result.q.second c.store-in-loop-k.ensures c.sums_of_three-sums.ensures.q (omega arith) c.loop-k.invariant.q;
  r = filled_more c.args.r_row.now c.args.sources.now c.args.from c.loop-k.k c.args.r.now c.loop-k.r c.store-in-loop-k-2.new.out c.sums_of_three-sums.result.r.first c.sums_of_three-sums.result.r.second c.store-in-loop-k-2.ensures c.sums_of_three-sums.ensures.r (omega arith) c.loop-k.invariant.r;
}
