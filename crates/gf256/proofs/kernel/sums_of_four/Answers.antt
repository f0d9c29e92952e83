use Rattle.gf256.proofs.Sums.{pair_none, pair_more, pair_all}
use Rattle.gf256.proofs.kernel.sums_of_four.Goals as goal

pub loop-j-init : goal.loop-j-init
loop-j-init c = record {
  p = pair_none c.args.p.now c.args.sources.now c.args.at c.zeros-p_sums.result.first c.zeros-p_sums.result.second c.zeros-p_sums.ensures.0 c.zeros-p_sums.ensures.1;
  q = pair_none c.args.q.now c.args.sources.now c.args.at c.zeros-q_sums.result.first c.zeros-q_sums.result.second c.zeros-q_sums.ensures.0 c.zeros-q_sums.ensures.1;
  r = pair_none c.args.r.now c.args.sources.now c.args.at c.zeros-r_sums.result.first c.zeros-r_sums.result.second c.zeros-r_sums.ensures.0 c.zeros-r_sums.ensures.1;
  s = pair_none c.args.s.now c.args.sources.now c.args.at c.zeros-s_sums.result.first c.zeros-s_sums.result.second c.zeros-s_sums.ensures.0 c.zeros-s_sums.ensures.1;
}

pub loop-j-preserved : goal.loop-j-preserved
loop-j-preserved c = record {
  p = pair_more c.args.p.now c.args.sources.now c.loop-j.j c.args.at _ _ c.loop-j.p_sums.first c.loop-j.p_sums.second c.plus_pair-p_sums.result.first c.plus_pair-p_sums.result.second c.pair_at-bytes.result.first c.pair_at-bytes.result.second
      c.requires.rows.0 c.loop-j-test.true c.loop-j.invariant.p c.plus_pair-p_sums.ensures.long c.plus_pair-p_sums.ensures.added c.pair_at-bytes.ensures.first c.pair_at-bytes.ensures.second;
  q = pair_more c.args.q.now c.args.sources.now c.loop-j.j c.args.at _ _ c.loop-j.q_sums.first c.loop-j.q_sums.second c.plus_pair-q_sums.result.first c.plus_pair-q_sums.result.second c.pair_at-bytes.result.first c.pair_at-bytes.result.second
      c.requires.rows.1 c.loop-j-test.true c.loop-j.invariant.q c.plus_pair-q_sums.ensures.long c.plus_pair-q_sums.ensures.added c.pair_at-bytes.ensures.first c.pair_at-bytes.ensures.second;
  r = pair_more c.args.r.now c.args.sources.now c.loop-j.j c.args.at _ _ c.loop-j.r_sums.first c.loop-j.r_sums.second c.plus_pair-r_sums.result.first c.plus_pair-r_sums.result.second c.pair_at-bytes.result.first c.pair_at-bytes.result.second
      c.requires.rows.2 c.loop-j-test.true c.loop-j.invariant.r c.plus_pair-r_sums.ensures.long c.plus_pair-r_sums.ensures.added c.pair_at-bytes.ensures.first c.pair_at-bytes.ensures.second;
  s = pair_more c.args.s.now c.args.sources.now c.loop-j.j c.args.at _ _ c.loop-j.s_sums.first c.loop-j.s_sums.second c.plus_pair-s_sums.result.first c.plus_pair-s_sums.result.second c.pair_at-bytes.result.first c.pair_at-bytes.result.second
      c.requires.rows.3 c.loop-j-test.true c.loop-j.invariant.s c.plus_pair-s_sums.ensures.long c.plus_pair-s_sums.ensures.added c.pair_at-bytes.ensures.first c.pair_at-bytes.ensures.second;
}

pub returns-clause-p : goal.returns-clause-p
returns-clause-p c = pair_all c.args.p.now c.args.sources.now c.loop-j.j c.args.at c.loop-j.p_sums.first c.loop-j.p_sums.second c.requires.rows.0 c.loop-j-test.false c.loop-j.invariant.p

pub returns-clause-q : goal.returns-clause-q
returns-clause-q c = pair_all c.args.q.now c.args.sources.now c.loop-j.j c.args.at c.loop-j.q_sums.first c.loop-j.q_sums.second c.requires.rows.1 c.loop-j-test.false c.loop-j.invariant.q

pub returns-clause-r : goal.returns-clause-r
returns-clause-r c = pair_all c.args.r.now c.args.sources.now c.loop-j.j c.args.at c.loop-j.r_sums.first c.loop-j.r_sums.second c.requires.rows.2 c.loop-j-test.false c.loop-j.invariant.r

pub returns-clause-s : goal.returns-clause-s
returns-clause-s c = pair_all c.args.s.now c.args.sources.now c.loop-j.j c.args.at c.loop-j.s_sums.first c.loop-j.s_sums.second c.requires.rows.3 c.loop-j-test.false c.loop-j.invariant.s
