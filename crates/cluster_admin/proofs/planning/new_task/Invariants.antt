use Rattle.std.proofs.Common.{◌≡◌, ◌≤◌, take, length, map}
use Rattle.cluster_admin.proofs.planning.new_task.Given as goal

abbrev pub invariant-loop-index : goal.invariant-loop-index
invariant-loop-index l =
    (l.targets ≡ map (λ index. record { index = index; disk = 0 }) (take l.index-index l.indexes)) × (length l.targets ≤ l.index-index)
