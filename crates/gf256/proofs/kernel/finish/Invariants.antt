use Rattle.gf256.proofs.Filled.{IsFilledTo}
use Rattle.gf256.proofs.kernel.finish.Given as goal

abbrev pub invariant-loop-place : goal.invariant-loop-place
invariant-loop-place l = IsFilledTo l.row l.sources l.from l.place l.initial.out l.out
