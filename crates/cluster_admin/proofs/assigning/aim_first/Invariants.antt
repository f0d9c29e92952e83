use Rattle.std.proofs.Common.{◌≡◌}
use Rattle.cluster_admin.specs.Placing.{Plan, IsAfter}
use Rattle.cluster_admin.specs.Drawing.{aimed_first}
use Rattle.cluster_admin.proofs.assigning.aim_first.Given as goal

abbrev pub invariant-loop-number : goal.invariant-loop-number
invariant-loop-number g l =
    let old : Plan = (goal.Placer-dyn g (l.fn.placer.vtable, l.fn.placer.value)).plan l.fn.placer.value in
    let new : Plan = (goal.Placer-dyn g (l.placer.vtable, l.placer.value)).plan l.placer.value in
    (l.tasks ≡ (aimed_first old l.disks l.volumes l.fn.tasks l.place l.number).tasks)
    × IsAfter old (aimed_first old l.disks l.volumes l.fn.tasks l.place l.number).shown new
