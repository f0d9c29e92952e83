use Rattle.std.proofs.Common.{◌≡◌, ◌≤◌, take}
use Rattle.cluster_admin.specs.Disks.{free_count}
use Rattle.cluster_admin.proofs.disks.free_count.Given as goal

abbrev pub invariant-loop-disk : goal.invariant-loop-disk
invariant-loop-disk l = (l.count ≡ free_count (take l.disk-index l.disks)) × (l.count ≤ l.disk-index)
