use Rattle.std.proofs.Common.{◌≡◌, ◌∙◌, sym, ap, rules, true, false}
use Rattle.std.specs.Prelude.{is_some}
use Rattle.volume_world.specs.World.{WorldOver}
use Rattle.volume_world.proofs.Openings.{opened_before, settled_now}
use Rattle.volume_world.proofs.parts.Parts.start_log.Goals as goal

pub returns-then-is_some : goal.returns-then-is_some
returns-then-is_some g c =
    let some : is_some c.args.self.now.entry.book.log.end ≡ true = search rules in
    opened_before g.H.Shelf.seen g.H.File.Extent.seen c.args.self.now c.requires.sound some

pub returns-in-Ok : goal.returns-in-Ok
returns-in-Ok g c =
    let shut : is_some c.args.self.now.entry.book.log.end ≡ false = search rules in
    settled_now g.H.Shelf.seen g.H.File.Extent.seen c.args.self.now c.start_entry.new.self c.note.new.self c.in-Ok.kept c.requires.sound
    c.in-Ok.ensures.only c.in-Ok.ensures.starts c.note.ensures.rest shut c.note.ensures.noted
