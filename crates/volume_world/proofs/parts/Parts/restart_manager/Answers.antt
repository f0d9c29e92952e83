use Rattle.std.proofs.Common.{◌≡◌, rules}
use Rattle.std.specs.Prelude.{is_none}
use Rattle.volume_world.proofs.Openings.{restarted_then, restart_refused}
use Rattle.volume_world.proofs.parts.Parts.restart_manager.Goals as goal

pub returns-in-Ok : goal.returns-in-Ok
returns-in-Ok g c =
    let was : c.is_none-was_shut.result ≡ is_none c.args.self.now.entry.book.log.end = search rules in
    restarted_then g.H.Shelf.seen g.H.File.Extent.seen c.args.self.now c.start_entry.new.self c.note_restart.new.self c.in-Ok.kept c.requires.sound
    c.in-Ok.ensures.only c.in-Ok.ensures.starts c.note_restart.ensures.rest c.is_none-was_shut.result was c.note_restart.ensures.noted

pub returns-in-Err : goal.returns-in-Err
returns-in-Err g c =
    restart_refused g.H.Shelf.seen g.H.File.Extent.seen c.args.self.now c.start_entry.new.self c.refuse.new.self c.in-Err.fault c.refuse.result
    c.requires.sound c.requires.room.few c.in-Err.ensures.only c.in-Err.ensures.starts c.refuse.ensures.reply c.refuse.ensures.noted c.refuse.ensures.rest
