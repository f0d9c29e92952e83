use Rattle.cluster_admin.specs.Placing.{Plan}
use Rattle.cluster_admin.proofs.Draws.{choice_picked}
use Rattle.cluster_admin.proofs.choosing.choose.Goals as goal

pub returns-clause-disk : goal.returns-clause-disk
returns-clause-disk g c =
    let old : Plan = (goal.Placer-dyn g (c.args.placer.now.vtable, c.args.placer.now.value)).plan c.args.placer.now.value in
    choice_picked old c.args.options.now c.pick-place.result _ c.pick-place.ensures.within c.pick-place.ensures.picked
