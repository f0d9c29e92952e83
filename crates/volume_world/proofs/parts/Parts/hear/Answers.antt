use Rattle.std.proofs.Common.{refl, subst}
use Rattle.unit_id.specs.Messages.{request_of, answer_of}
use Rattle.volume_entry.specs.TableParts.{shape_of}
use Rattle.volume_entry.proofs.SoundParts.{few_units}
use Rattle.volume_world.specs.Run.{World}
use Rattle.volume_world.specs.Serving.{once_heard}
use Rattle.volume_world.specs.World.{WorldOver, Stands}
use Rattle.volume_world.proofs.HeardWorlds.{heard_stands}
use Rattle.volume_world.proofs.parts.Parts.hear.Goals as goal

pub returns-in-Ok-clause-heard : goal.returns-in-Ok-clause-heard
returns-in-Ok-clause-heard g c =
    let was : WorldOver g.row.H.Denot g.row.H-File.Denot = record {
      vid = c.self.inside.stations.vid;
      shape = c.self.inside.shape;
      first = c.self.inside.first.items;
      stations = c.self.inside.stations.stations;
      entry = c.self.inside.entry;
      puts = c.self.inside.puts;
      planned = c.self.inside.link;
      late = c.self.inside.late;
      time = c.self.inside.time;
      history = c.self.inside.history;
    } in
    let new : WorldOver g.row.H.Denot g.row.H-File.Denot = record was { entry = c.hear.new.self; puts = c.hear-in-Ok.new.self } in
    subst (λ (world : WorldOver g.row.H.Denot g.row.H-File.Denot). (w : World) → Stands g.H.Shelf.seen g.H.File.Extent.seen world w
    → Stands g.H.Shelf.seen g.H.File.Extent.seen new (record w { state = once_heard c.args.request.now c.args.answer.now w.state })) c.self.view_is
    (λ w stands. heard_stands g.H.Shelf.seen g.H.File.Extent.seen was new w refl c.hear.ensures.book.1 c.args.request.now c.args.answer.now
    (c.in-Ok.ensures.told w.state.manager stands.manager)
    (c.hear-in-Ok.ensures (shape_of was.shape).total w.state.puts (few_units was.shape) stands.puts) stands)
