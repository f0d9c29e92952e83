use Rattle.std.proofs.Common.{[], arith}
use Rattle.volume_world.proofs.Taking.{passes_room}
use Rattle.volume_world.proofs.Worlds.{stays_world}
use Rattle.volume_world.proofs.world.World.reserve.Goals as goal

pub invariant_of-self : goal.invariant_of-self
invariant_of-self g c =
    stays_world g.H.Shelf.seen g.H.File.Extent.seen [] c.self.inside.parts c.make_room.new.self c.self.invariant
    (passes_room g.H.Shelf.seen g.H.File.Extent.seen c.self.inside.parts c.make_room.new.self c.self.invariant.sound c.make_room.ensures.rest c.make_room.ensures.same c.make_room.ensures.kept)
    (let few = c.self.invariant.few in omega (arith, few)) (λ w told led event reply there. absurd there)

pub invariant_of-self-2 : goal.invariant_of-self-2
invariant_of-self-2 g c =
    stays_world g.H.Shelf.seen g.H.File.Extent.seen [] c.self.inside.parts c.make_room.new.self c.self.invariant
    (passes_room g.H.Shelf.seen g.H.File.Extent.seen c.self.inside.parts c.make_room.new.self c.self.invariant.sound c.make_room.ensures.rest c.make_room.ensures.same c.make_room.ensures.kept)
    (let few = c.self.invariant.few in omega (arith, few)) (λ w told led event reply there. absurd there)
