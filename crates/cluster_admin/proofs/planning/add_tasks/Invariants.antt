use Rattle.std.proofs.Common.{◌≡◌, ◌+◌, ◌++◌, length}
use Rattle.cluster_admin.specs.Planning.{tasks_of}
use Rattle.cluster_admin.proofs.planning.add_tasks.Given as goal

abbrev pub invariant-loop-group : goal.invariant-loop-group
invariant-loop-group l =
    (l.fresh.items ≡ l.fn.fresh.items ++ tasks_of l.kind l.vid l.next l.size l.indexes l.group)
    × (length l.fresh.items ≡ length l.fn.fresh.items + l.group)
