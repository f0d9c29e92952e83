use Rattle.std.proofs.Common.{sym, subst}
use Rattle.volume_world.specs.Stepping.{IsSound, Done}
use Rattle.volume_world.specs.World.{WorldOver}
use Rattle.volume_world.specs.declared.event.Event.TheVariants as events
use Rattle.volume_world.specs.declared.reply.Reply.TheVariants as replies
use Rattle.volume_world.proofs.ClockPasses.{tick_done}
use Rattle.volume_world.proofs.parts.Parts.tick.Goals as goal

pub returns : goal.returns
returns g c =
    subst (λ (world : WorldOver g.row.H.Denot g.row.H-File.Denot). Done g.H.Shelf.seen g.H.File.Extent.seen 0 world c.note.new.self (events.Tick c.args.by) (replies.Now c.later-now.result))
    c.self.view_is
    (tick_done g.H.Shelf.seen g.H.File.Extent.seen _ c.note.new.self
    (subst (λ (world : WorldOver g.row.H.Denot g.row.H-File.Denot). IsSound g.H.Shelf.seen g.H.File.Extent.seen world) (sym c.self.view_is) c.requires.sound)
    c.args.by c.later-now.result c.later-now.ensures.later c.later-now.ensures.last c.note.ensures.noted c.note.ensures.rest)
