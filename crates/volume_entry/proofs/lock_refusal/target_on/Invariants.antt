use Rattle.std.proofs.Common.{◌≡◌, take, reverse}
use Rattle.volume_entry.specs.ManagerStep.{targeted}
use Rattle.volume_entry.proofs.lock_refusal.target_on.Given as goal

abbrev pub invariant-loop-target : goal.invariant-loop-target
invariant-loop-target l = l.found ≡ targeted (reverse (take l.target-index l.earlier)) l.disk
