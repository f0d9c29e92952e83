use Rattle.gf256.specs.Rows.{PartialAtPair}
use Rattle.gf256.proofs.kernel.sums_of_one.Given as goal

abbrev pub invariant-loop-j : goal.invariant-loop-j
invariant-loop-j l = record {
  p : PartialAtPair l.p l.sources l.j l.at l.sums.first l.sums.second;
}
