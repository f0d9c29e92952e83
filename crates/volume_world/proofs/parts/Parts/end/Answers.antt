use Rattle.std.proofs.Common.{sym, subst, IsSome}
use Rattle.volume_world.specs.History.{IsNoted}
use Rattle.volume_world.specs.Stepping.{IsSound, Done}
use Rattle.volume_world.specs.World.{WorldOver}
use Rattle.volume_world.specs.declared.event.Event.TheVariants as events
use Rattle.volume_world.specs.declared.trace.TraceEvent.TheVariants as kept_event
use Rattle.volume_world.proofs.PutPasses.{end_passes}
use Rattle.volume_world.proofs.parts.Parts.end.Goals as goal

pub returns : goal.returns
returns g c =
    subst (λ (world : WorldOver g.row.H.Denot g.row.H-File.Denot). Done g.H.Shelf.seen g.H.File.Extent.seen 0 world c.note.new.self (events.End c.args.bid) c.end-reply.result) c.self.view_is
    (end_passes g.H.Shelf.seen g.H.File.Extent.seen _ c.note.new.self
    (subst (λ (world : WorldOver g.row.H.Denot g.row.H-File.Denot). IsSound g.H.Shelf.seen g.H.File.Extent.seen world) (sym c.self.view_is) c.requires.sound)
    c.args.bid c.end-reply.result c.end-reply.new.self
    (subst (λ (world : WorldOver g.row.H.Denot g.row.H-File.Denot). IsSome world.entry.book.log.end) (sym c.self.view_is) c.requires.open)
    c.end-reply.ensures.reply c.end-reply.ensures.ends
    (subst (λ kept. IsNoted (record { event = kept_event.End c.args.bid; reply = kept }) c.self.inside.history c.note.new.self.history) c.kept.ensures c.note.ensures.noted)
    c.note.ensures.rest)
