use Rattle.std.proofs.Common.{◌≡◌, take}
use Rattle.volume_entry.specs.ManagerStep.{grants_of}
use Rattle.volume_entry.proofs.granting.grants_of.Given as goal

abbrev pub invariant-loop-target : goal.invariant-loop-target
invariant-loop-target l = l.grants.items ≡ grants_of l.greatest (take l.target-index l.targets)
