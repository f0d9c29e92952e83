use Rattle.std.proofs.Common.{◌≡◌, ◌+◌, ◌++◌, drop, take, length}
use Rattle.cluster_admin.specs.Settling.{settled_from}
use Rattle.cluster_admin.proofs.settling.settle_disks.Given as goal

abbrev pub invariant-loop-place : goal.invariant-loop-place
invariant-loop-place l =
    (take l.place l.disks ++ settled_from l.volumes l.tasks (l.place + 1) (drop l.place l.disks) ≡ settled_from l.volumes l.tasks 1 l.fn.disks)
    × (length l.disks ≡ length l.fn.disks)
