use Rattle.std.proofs.Common.{◌≡◌, drop}
use Rattle.cluster_admin.specs.Settling.{was_given}
use Rattle.cluster_admin.proofs.settling.was_given.Given as goal

abbrev pub invariant-loop-task : goal.invariant-loop-task
invariant-loop-task l = was_given (drop l.task-index l.tasks) l.disk ≡ was_given l.tasks l.disk
