use Rattle.std.proofs.Common.{◌+◌, ◌*◌}
use Rattle.gf256.proofs.Filled.{IsFilledTo}
use Rattle.gf256.proofs.kernel.fill_one.Given as goal

abbrev pub invariant-loop-k : goal.invariant-loop-k
invariant-loop-k l = IsFilledTo l.p_row l.sources l.from (l.from + 32 * l.k) l.initial.p l.p
