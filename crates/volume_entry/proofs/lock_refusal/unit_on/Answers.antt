use Rattle.std.proofs.Common.{◌∙◌, sym, arith}
use Rattle.volume_entry.proofs.LockTargets.{holder_within}
use Rattle.volume_entry.proofs.lock_refusal.unit_on.Goals as goal

pub overflow_cast-result : goal.overflow_cast-result
overflow_cast-result c = let h = holder_within 0 c.args.homes.now c.args.disk c.in-Some.index (sym c.holder.ensures ∙ c.in-Some.is) in omega (arith, h)
