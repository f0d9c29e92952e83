use Rattle.std.proofs.Common.{◌≡◌, ◌≤◌, length}
use Rattle.cluster_admin.specs.Disks.{free_count}
use Rattle.cluster_admin.specs.Placing.{Plan, IsAfter}
use Rattle.cluster_admin.specs.Drawing.{drawn}
use Rattle.cluster_admin.specs.NewHomes.{AreApart}
use Rattle.cluster_admin.proofs.choosing.draw.Given as goal

abbrev pub invariant-loop-index : goal.invariant-loop-index
invariant-loop-index g l =
    let old : Plan = (goal.Placer-dyn g (l.fn.placer.vtable, l.fn.placer.value)).plan l.fn.placer.value in
    let new : Plan = (goal.Placer-dyn g (l.placer.vtable, l.placer.value)).plan l.placer.value in
    (l.homes ≡ (drawn old l.disks l.volumes l._index).homes) × IsAfter old (drawn old l.disks l.volumes l._index).shown new × (length l.homes ≡ l._index)
    × (l.count ≤ free_count l.disks → AreApart (length l.disks) l.homes)
