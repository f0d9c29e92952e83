use Rattle.std.proofs.Common.{◌≡◌, drop}
use Rattle.cluster_admin.specs.Plans.{is_aimed}
use Rattle.cluster_admin.proofs.plans.is_aimed.Given as goal

abbrev pub invariant-loop-task : goal.invariant-loop-task
invariant-loop-task l = is_aimed (drop l.task-index l.tasks) l.vid l.disk ≡ is_aimed l.tasks l.vid l.disk
