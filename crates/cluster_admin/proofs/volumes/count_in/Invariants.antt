use Rattle.std.proofs.Common.{◌≡◌, ◌≤◌, take, nat_eq}
use Rattle.std.specs.List.{count_by}
use Rattle.cluster_admin.proofs.volumes.count_in.Given as goal

abbrev pub invariant-loop-home : goal.invariant-loop-home
invariant-loop-home l = (l.count ≡ count_by (nat_eq l.disk) (take l.home-index l.row)) × (l.count ≤ l.home-index)
