use Rattle.std.proofs.Common.{◌≡◌, drop}
use Rattle.cluster_admin.specs.Plans.{is_unfinished}
use Rattle.cluster_admin.proofs.plans.is_unfinished.Given as goal

abbrev pub invariant-loop-task : goal.invariant-loop-task
invariant-loop-task l = is_unfinished (drop l.task-index l.tasks) l.id ≡ is_unfinished l.tasks l.id
