use Rattle.std.proofs.Common.{◌≡◌, drop}
use Rattle.migrate_task.specs.AdvanceCall.{target_disk}
use Rattle.migrate_task.proofs.retargeting.target_disk.Given as goal

abbrev pub invariant-targets : goal.invariant-targets
invariant-targets l = target_disk l.targets l.index ≡ target_disk (drop l.target-index l.targets) l.index
