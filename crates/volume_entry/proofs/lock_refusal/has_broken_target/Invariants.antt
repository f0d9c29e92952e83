use Rattle.std.proofs.Common.{◌≡◌, drop}
use Rattle.unit_id.specs.Lists.{any}
use Rattle.unit_id.specs.declared.targets.Target.{Target}
use Rattle.volume_entry.specs.Entry.{is_broken}
use Rattle.volume_entry.proofs.lock_refusal.has_broken_target.Given as goal

abbrev pub invariant-loop-target : goal.invariant-loop-target
invariant-loop-target l = any (λ (w : Target). is_broken l.broken w.disk) l.targets ≡ any (λ (w : Target). is_broken l.broken w.disk) (drop l.target-index l.targets)
