use Rattle.std.proofs.Common.{◌≡◌, ◌≤◌, ◌+◌, drop, length}
use Rattle.cluster_admin.specs.Picking.{candidates, fewest_from, picked}
use Rattle.cluster_admin.proofs.picking.picked.Given as goal

abbrev pub invariant-loop-place : goal.invariant-loop-place
invariant-loop-place l =
    (fewest_from l.best (candidates (l.place + 1) (drop l.place l.volumes) (drop l.seen l.views)) ≡ picked l.volumes l.views)
    × (l.seen ≤ length l.views)
