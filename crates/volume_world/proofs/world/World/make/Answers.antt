use Rattle.volume_world.proofs.Worlds.{made_world}
use Rattle.volume_world.proofs.world.World.make.Goals as goal

pub invariant_of-result : goal.invariant_of-result
invariant_of-result g c =
    made_world g.H.Shelf.seen g.H.File.Extent.seen c.args.vid c.args.mode c.args.stations.items c.args.file c.args.homes.now c.in-Ok.parts c.requires c.in-Ok.ensures
