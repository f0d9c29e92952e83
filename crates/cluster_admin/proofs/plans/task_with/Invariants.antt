use Rattle.std.proofs.Common.{◌≡◌, drop}
use Rattle.cluster_admin.specs.Plans.{task_with}
use Rattle.cluster_admin.proofs.plans.task_with.Given as goal

abbrev pub invariant-loop-task : goal.invariant-loop-task
invariant-loop-task l = task_with (drop l.task-index l.tasks) l.vid l.index ≡ task_with l.tasks l.vid l.index
