use Rattle.std.proofs.Common.{subst}
use Rattle.volume_world.specs.History.{IsNoted}
use Rattle.volume_world.specs.declared.trace.TraceEvent.TheVariants as kept_event
use Rattle.volume_world.specs.declared.trace.TraceReply.TheVariants as kept_reply
use Rattle.volume_world.proofs.SendPasses.{barred_done}
use Rattle.volume_world.proofs.parts.Parts.bar.Goals as goal

pub returns : goal.returns
returns g c =
    barred_done g.H.Shelf.seen g.H.File.Extent.seen c.args.request.now c.args.self.now c.note.new.self c.requires.ready c.requires.barred
    (subst (λ kept. IsNoted (record { event = kept_event.Send kept; reply = kept_reply.Barred }) c.args.self.now.history c.note.new.self.history) c.request_kept-request.ensures c.note.ensures.noted)
    c.note.ensures.rest
