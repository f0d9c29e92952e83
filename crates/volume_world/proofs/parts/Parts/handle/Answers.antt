use Rattle.volume_world.proofs.HandledPasses.{not_handled}
use Rattle.volume_world.proofs.parts.Parts.handle.Goals as goal

pub returns-in-Err : goal.returns-in-Err
returns-in-Err g c = not_handled g.H.Shelf.seen g.H.File.Extent.seen c.args.request.now _ c.args.self.now c.serve.new.self c.requires.ready.sound c.in-Err.ensures
