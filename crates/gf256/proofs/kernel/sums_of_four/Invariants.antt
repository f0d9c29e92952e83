use Rattle.gf256.specs.Rows.{PartialAtPair}
use Rattle.gf256.proofs.kernel.sums_of_four.Given as goal

abbrev pub invariant-loop-j : goal.invariant-loop-j
invariant-loop-j l = record {
  p : PartialAtPair l.p l.sources l.j l.at l.p_sums.first l.p_sums.second;
  q : PartialAtPair l.q l.sources l.j l.at l.q_sums.first l.q_sums.second;
  r : PartialAtPair l.r l.sources l.j l.at l.r_sums.first l.r_sums.second;
  s : PartialAtPair l.s l.sources l.j l.at l.s_sums.first l.s_sums.second;
}
