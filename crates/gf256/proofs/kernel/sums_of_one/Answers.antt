use Rattle.gf256.proofs.Sums.{pair_none, pair_more, pair_all}
use Rattle.gf256.proofs.kernel.sums_of_one.Goals as goal

pub loop-j-init : goal.loop-j-init
loop-j-init c = record {
  p = pair_none c.args.p.now c.args.sources.now c.args.at c.zeros-sums.result.first c.zeros-sums.result.second c.zeros-sums.ensures.0 c.zeros-sums.ensures.1;
}

pub loop-j-preserved : goal.loop-j-preserved
loop-j-preserved c = record {
  p = pair_more c.args.p.now c.args.sources.now c.loop-j.j c.args.at _ _ c.loop-j.sums.first c.loop-j.sums.second c.plus_pair-sums.result.first c.plus_pair-sums.result.second c.pair_at-bytes.result.first c.pair_at-bytes.result.second
      c.requires.row c.loop-j-test.true c.loop-j.invariant.p c.plus_pair-sums.ensures.long c.plus_pair-sums.ensures.added c.pair_at-bytes.ensures.first c.pair_at-bytes.ensures.second;
}

pub returns : goal.returns
returns c = pair_all c.args.p.now c.args.sources.now c.loop-j.j c.args.at c.loop-j.sums.first c.loop-j.sums.second c.requires.row c.loop-j-test.false c.loop-j.invariant.p
