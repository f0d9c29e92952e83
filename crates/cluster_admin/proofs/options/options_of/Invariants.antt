use Rattle.std.proofs.Common.{◌≡◌, ◌≤◌, ◌+◌, ◌++◌, drop, length}
use Rattle.cluster_admin.specs.Choosing.{options_from}
use Rattle.cluster_admin.proofs.options.options_of.Given as goal

abbrev pub invariant-loop-place : goal.invariant-loop-place
invariant-loop-place l =
    (l.options ++ options_from l.volumes l.homes l.tasks l.vid (l.place + 1) (drop l.place l.disks) ≡ options_from l.volumes l.homes l.tasks l.vid 1 l.disks)
    × (length l.options ≤ l.place)
