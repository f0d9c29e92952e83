use Rattle.std.proofs.Common.{arith, []}
use Rattle.volume_world.specs.Stepping.{IsSound, Takes}
use Rattle.volume_world.proofs.Taking.{passes_room, takes_behind}
use Rattle.volume_world.proofs.parts.Parts.step.Goals as goal

pub returns-then-is_err-clause-takes : goal.returns-then-is_err-clause-takes
returns-then-is_err-clause-takes g c = record {
  settles = [];
  settling = tt;
  few = omega arith;
  passes = passes_room g.H.Shelf.seen g.H.File.Extent.seen c.args.self.now c.make_room.new.self c.requires.sound c.make_room.ensures.rest c.make_room.ensures.same c.make_room.ensures.kept;
}

pub happen-requires-clause-sound : goal.happen-requires-clause-sound
happen-requires-clause-sound g c =
    (passes_room g.H.Shelf.seen g.H.File.Extent.seen c.args.self.now c.make_room.new.self c.requires.sound c.make_room.ensures.rest c.make_room.ensures.same c.make_room.ensures.kept).sound

pub returns-clause-takes : goal.returns-clause-takes
returns-clause-takes g c =
    takes_behind g.H.Shelf.seen g.H.File.Extent.seen 2 2 [] c.args.self.now c.make_room.new.self c.happen.new.self c.args.event tt (omega arith)
    (passes_room g.H.Shelf.seen g.H.File.Extent.seen c.args.self.now c.make_room.new.self c.requires.sound c.make_room.ensures.rest c.make_room.ensures.same c.make_room.ensures.kept)
    c.happen.result c.happen.ensures.takes
