use Rattle.std.proofs.Common.{sym, subst}
use Rattle.volume_world.specs.Stepping.{IsSound, Done}
use Rattle.volume_world.specs.World.{WorldOver}
use Rattle.volume_world.specs.declared.event.Event.TheVariants as events
use Rattle.volume_world.specs.declared.reply.Reply.TheVariants as replies
use Rattle.volume_world.proofs.ClockPasses.{break_done_to}
use Rattle.volume_world.proofs.parts.Parts.break_disk.Goals as goal

pub returns : goal.returns
returns g c =
    subst (λ (world : WorldOver g.row.H.Denot g.row.H-File.Denot). Done g.H.Shelf.seen g.H.File.Extent.seen 0 world c.note.new.self (events.Break c.args.disk) replies.Done) c.self.view_is
    (break_done_to g.H.Shelf.seen g.H.File.Extent.seen _ c.note.new.self
    (subst (λ (world : WorldOver g.row.H.Denot g.row.H-File.Denot). IsSound g.H.Shelf.seen g.H.File.Extent.seen world) (sym c.self.view_is) c.requires.sound)
    c.args.disk c.break_down.new.self c.break_disk.new.self c.break_down.ensures c.break_disk.ensures.set c.break_disk.ensures.each c.note.ensures.rest c.note.ensures.noted)
