use Rattle.volume_world.proofs.MadeWorlds.{one_made}
use Rattle.volume_world.proofs.making.make_unit.Goals as goal

pub returns : goal.returns
returns g c =
    one_made g.H.Shelf.seen g.H.File.Extent.seen c.args.home c.args.stations.now c.handle-found.new.self c.handle-found.result.0 c.handle-found.result.1 c.unit_made.result c.unit_made.ensures
    c.handle-found.ensures.call c.handle-found.ensures.told c.handle-found.ensures.lasts
