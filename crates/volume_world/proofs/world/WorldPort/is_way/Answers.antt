use Rattle.std.proofs.Common.{subst}
use Rattle.volume_world.specs.Way.{IsWay}
use Rattle.volume_world.specs.WorldWay.{way_of}
use Rattle.volume_world.proofs.Worlds.{is_way}
use Rattle.volume_world.proofs.world.WorldPort.is_way.Goals as goal

pub returns : goal.returns
returns g c =
    subst (λ world. IsWay (way_of g.H.Shelf.seen g.H.File.Extent.seen world)) c.self.view_is
    (is_way g.H.Shelf.seen g.H.File.Extent.seen c.self.inside.parts c.self.invariant)
