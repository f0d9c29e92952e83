use Rattle.std.proofs.Common.{◌≡◌, ◌++◌, drop, take, map, length}
use Rattle.cluster_admin.specs.Planning.{repaired_disk}
use Rattle.cluster_admin.proofs.planning.repair_disks.Given as goal

abbrev pub invariant-loop-place : goal.invariant-loop-place
invariant-loop-place l = (take l.place l.disks ++ map repaired_disk (drop l.place l.disks) ≡ map repaired_disk l.fn.disks) × (length l.disks ≡ length l.fn.disks)
