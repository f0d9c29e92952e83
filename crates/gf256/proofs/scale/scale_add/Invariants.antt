use Rattle.std.proofs.Common.{◌*◌}
use Rattle.gf256.proofs.Scaled.{IsScaledTo}
use Rattle.gf256.proofs.scale.scale_add.Given as goal

abbrev pub invariant-loop-k : goal.invariant-loop-k
invariant-loop-k l = IsScaledTo l.by l.src (16 * l.k) l.initial.out l.out

abbrev pub invariant-loop-k-2 : goal.invariant-loop-k-2
invariant-loop-k-2 l = IsScaledTo l.by l.src l.k l.fn.out l.out
