use Rattle.std.proofs.Common.{◌≡◌, ◌+◌, ◌++◌, drop}
use Rattle.cluster_admin.specs.Settling.{changes_from}
use Rattle.cluster_admin.proofs.settling.changes.Given as goal

abbrev pub invariant-loop-place : goal.invariant-loop-place
invariant-loop-place l =
    l.changes.items ++ changes_from l.volumes l.tasks (l.place + 1) (drop l.place l.disks) ≡ changes_from l.volumes l.tasks 1 l.disks
