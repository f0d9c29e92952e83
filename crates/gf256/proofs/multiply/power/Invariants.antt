use Rattle.std.proofs.Common.{◌≡◌, ◌<◌}
use Rattle.gf256.specs.Field.{product, power_of}
use Rattle.gf256.proofs.multiply.power.Given as goal

-- what is done and what is left make the power
abbrev pub invariant-loop-left : goal.invariant-loop-left
invariant-loop-left l = (product l.done (power_of l.square l.left) ≡ power_of l.fn.a l.fn.k) × (l.done < 256)

abbrev pub decreases-loop-left : goal.decreases-loop-left
decreases-loop-left l = l.left
