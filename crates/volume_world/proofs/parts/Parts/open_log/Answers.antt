use Rattle.std.proofs.Common.{Ok, Err}
use Rattle.volume_world.proofs.Openings.{refused_now}
use Rattle.volume_world.proofs.parts.Parts.open_log.Goals as goal

pub returns-in-Ok-refuse : goal.returns-in-Ok-refuse
returns-in-Ok-refuse g c =
    refused_now g.H.Shelf.seen g.H.File.Extent.seen c.args.self.now c.start_log.new.self c.refuse.new.self c.args.event c.in-Err.fault (Ok c.in-Ok-refuse.reply)
    c.requires.sound c.requires.room.few c.in-Err.ensures.only c.in-Err.ensures.starts c.in-Ok-refuse.ensures.reply c.in-Ok-refuse.ensures.noted c.in-Ok-refuse.ensures.rest
    c.requires.needs c.in-Err.ensures.shut

pub returns-in-Err-refuse : goal.returns-in-Err-refuse
returns-in-Err-refuse g c = (
  c.in-Err.ensures.shut,
  refused_now g.H.Shelf.seen g.H.File.Extent.seen c.args.self.now c.start_log.new.self c.refuse.new.self c.args.event c.in-Err.fault (Err c.in-Err-refuse.fault)
      c.requires.sound c.requires.room.few c.in-Err.ensures.only c.in-Err.ensures.starts c.in-Err-refuse.ensures.reply c.in-Err-refuse.ensures.noted c.in-Err-refuse.ensures.rest
      c.requires.needs c.in-Err.ensures.shut,
)
