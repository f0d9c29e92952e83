use Rattle.std.proofs.Common.{◌≡◌, drop}
use Rattle.unit_id.specs.Lists.{any}
use Rattle.unit_id.specs.declared.targets.Target.{Target}
use Rattle.volume_entry.specs.ManagerStep.{is_spent}
use Rattle.volume_entry.proofs.lock_refusal.has_spent_target.Given as goal

abbrev pub invariant-loop-target : goal.invariant-loop-target
invariant-loop-target l = any (λ (w : Target). is_spent l.greatest w.index) l.targets ≡ any (λ (w : Target). is_spent l.greatest w.index) (drop l.target-index l.targets)
