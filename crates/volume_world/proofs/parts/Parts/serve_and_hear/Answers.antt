use Rattle.volume_world.proofs.HandledPasses.{not_heard}
use Rattle.volume_world.proofs.parts.Parts.serve_and_hear.Goals as goal

pub returns-in-Err : goal.returns-in-Err
returns-in-Err g c =
    not_heard g.H.Shelf.seen g.H.File.Extent.seen c.args.request.now c.in_ok-answer.answer c.in-Err.fault c.args.self.now c.handle.new.self c.hear.new.self c.in_ok-answer.ensures
    c.in-Err.ensures.rest c.in-Err.ensures.book c.in-Err.ensures.broken c.in-Err.ensures.heard c.in-Err.ensures.succeeds c.requires.ready.sound c.requires.ready.heard
