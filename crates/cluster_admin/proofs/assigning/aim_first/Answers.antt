use Rattle.cluster_admin.specs.Placing.{Plan}
use Rattle.cluster_admin.proofs.Draws.{aim_more}
use Rattle.cluster_admin.proofs.assigning.aim_first.Goals as goal

pub loop-number-preserved : goal.loop-number-preserved
loop-number-preserved g c =
    let old : Plan = (goal.Placer-dyn g (c.args.placer.now.vtable, c.args.placer.now.value)).plan c.args.placer.now.value in
    let middle : Plan = (goal.Placer-dyn g (c.loop-number.placer.vtable, c.loop-number.placer.value)).plan c.loop-number.placer.value in
    let new : Plan = (goal.Placer-dyn g (c.aim.new.placer.vtable, c.aim.new.placer.value)).plan c.aim.new.placer.value in
    aim_more old middle new c.args.disks.now c.args.volumes.now c.args.place c.loop-number.number c.args.tasks.now c.loop-number.tasks c.aim.new.tasks
    c.loop-number.invariant.0 c.loop-number.invariant.1 c.aim.ensures.tasks c.aim.ensures.moved
