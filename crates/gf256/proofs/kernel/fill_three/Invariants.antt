use Rattle.std.proofs.Common.{◌+◌, ◌*◌}
use Rattle.gf256.proofs.Filled.{IsFilledTo}
use Rattle.gf256.proofs.kernel.fill_three.Given as goal

abbrev pub invariant-loop-k : goal.invariant-loop-k
invariant-loop-k l = record {
  p : IsFilledTo l.p_row l.sources l.from (l.from + 32 * l.k) l.initial.p l.p;
  q : IsFilledTo l.q_row l.sources l.from (l.from + 32 * l.k) l.initial.q l.q;
  r : IsFilledTo l.r_row l.sources l.from (l.from + 32 * l.k) l.initial.r l.r;
}
