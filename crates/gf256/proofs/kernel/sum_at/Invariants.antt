use Rattle.gf256.proofs.Filled.{IsByteSum}
use Rattle.gf256.proofs.kernel.sum_at.Given as goal

abbrev pub invariant-loop-j : goal.invariant-loop-j
invariant-loop-j l = IsByteSum l.row l.sources l.j l.place l.sum
