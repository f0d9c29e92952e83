use Rattle.std.proofs.Common.{◌≡◌, ◌≤◌, ◌+◌, ◌*◌, ◌++◌, length, drop}
use Rattle.cluster_admin.specs.Planning.{tasks_from}
use Rattle.cluster_admin.proofs.planning.new_tasks.Given as goal

abbrev pub invariant-loop-place : goal.invariant-loop-place
invariant-loop-place l =
    (l.fresh.items ++ tasks_from l.disks l.tasks l.kind l.reach (l.place + 1) (l.next + length l.fresh.items) (drop l.place l.volumes)
    ≡ tasks_from l.disks l.tasks l.kind l.reach 1 l.next l.volumes)
    × (length l.fresh.items ≤ 27 * l.place)
