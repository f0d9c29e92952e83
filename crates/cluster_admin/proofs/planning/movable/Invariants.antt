use Rattle.std.proofs.Common.{◌≡◌, ◌++◌, ◌≤◌, length, drop}
use Rattle.cluster_admin.specs.Planning.{movable_from}
use Rattle.cluster_admin.proofs.planning.movable.Given as goal

abbrev pub invariant-loop-index : goal.invariant-loop-index
invariant-loop-index l =
    (l.indexes.items ++ movable_from l.disks l.tasks l.reach l.vid l.index (drop l.index l.homes) ≡ movable_from l.disks l.tasks l.reach l.vid 0 l.homes)
    × (length l.indexes.items ≤ l.index)
