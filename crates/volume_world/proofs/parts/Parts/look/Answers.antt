use Rattle.std.proofs.Common.{subst}
use Rattle.volume_world.specs.History.{IsNoted}
use Rattle.volume_world.specs.declared.trace.TraceEvent.TheVariants as kept_event
use Rattle.volume_world.proofs.PutPasses.{look_passes}
use Rattle.volume_world.proofs.parts.Parts.look.Goals as goal

pub returns : goal.returns
returns g c =
    look_passes g.H.Shelf.seen g.H.File.Extent.seen c.args.self.now c.note.new.self c.requires.sound c.view.result c.view.ensures.looks c.view.ensures.shows
    (subst (λ kept. IsNoted (record { event = kept_event.Look; reply = kept }) c.args.self.now.history c.note.new.self.history) c.kept.ensures c.note.ensures.noted)
    c.note.ensures.rest
