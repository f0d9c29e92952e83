use Rattle.std.proofs.Common.{◌≡◌, refl, sym, subst, rules, Ok, Err}
use Rattle.volume_entry.specs.Entry.{Looks}
use Rattle.volume_world.specs.Asking.{FitsEvent}
use Rattle.volume_world.specs.History.{IsNoted}
use Rattle.volume_world.specs.Origins.{origin_of}
use Rattle.volume_world.specs.Replying.{ShowsView}
use Rattle.volume_world.specs.Stepping.{IsSound, Takes, Done, NotDone}
use Rattle.volume_world.specs.World.{WorldOver}
use Rattle.volume_world.specs.declared.event.Event.TheVariants as events
use Rattle.volume_world.specs.declared.fault.StepFault.TheVariants.{Memory}
use Rattle.volume_world.specs.declared.trace.TraceEvent.TheVariants as kept_event
use Rattle.volume_world.proofs.PutPasses.{begin_passes, begin_not_done}
use Rattle.volume_world.proofs.parts.Parts.begin.Goals as goal

pub returns : goal.returns
returns g c =
    subst (λ (world : WorldOver g.row.H.Denot g.row.H-File.Denot). Done g.H.Shelf.seen g.H.File.Extent.seen 0 world c.note.new.self (events.Begin c.args.bid c.args.payload) c.in_ok-reply.reply)
    c.self.view_is
    (begin_passes g.H.Shelf.seen g.H.File.Extent.seen _ c.note.new.self
    (subst (λ (world : WorldOver g.row.H.Denot g.row.H-File.Denot). IsSound g.H.Shelf.seen g.H.File.Extent.seen world) (sym c.self.view_is) c.requires.sound)
    c.args.bid c.args.payload c.view-view.result c.in_ok-reply.reply c.reserve.new.self c.begin_put.new.puts
    (subst (λ (world : WorldOver g.row.H.Denot g.row.H-File.Denot). FitsEvent (origin_of g.H.Shelf.seen g.H.File.Extent.seen world) (events.Begin c.args.bid c.args.payload)) (sym c.self.view_is) c.requires.fits)
    (subst (λ (world : WorldOver g.row.H.Denot g.row.H-File.Denot). Looks g.H.File.Extent.seen world.time world.entry (Ok c.view-view.result)) (sym c.self.view_is) c.view-view.ensures.looks)
    (subst (λ (world : WorldOver g.row.H.Denot g.row.H-File.Denot). ShowsView (origin_of g.H.Shelf.seen g.H.File.Extent.seen world) c.view-view.result) (sym c.self.view_is) c.view-view.ensures.shows)
    c.in_ok-reserve.ensures.same c.in_ok-reply.ensures.begins
    (subst (λ kept. IsNoted (record { event = kept_event.Begin c.args.bid c.args.payload; reply = kept }) c.self.inside.history c.note.new.self.history) c.kept.ensures c.note.ensures.noted)
    c.note.ensures.rest)

pub returns-in_err-reserve : goal.returns-in_err-reserve
returns-in_err-reserve g c =
    let is : c.from_residual.result ≡ Err Memory = search rules in
    let was : WorldOver g.row.H.Denot g.row.H-File.Denot = record {
      vid = c.self.inside.stations.vid;
      shape = c.self.inside.shape;
      first = c.self.inside.first.items;
      stations = c.self.inside.stations.stations;
      entry = c.self.inside.entry;
      puts = c.self.inside.puts;
      planned = c.self.inside.link;
      late = c.self.inside.late;
      time = c.self.inside.time;
      history = c.self.inside.history;
    } in
    let roomy : WorldOver g.row.H.Denot g.row.H-File.Denot = record was { puts = c.reserve.new.self } in
    subst (λ result. Takes g.H.Shelf.seen g.H.File.Extent.seen 0 c.args.self.now roomy (events.Begin c.args.bid c.args.payload) result) (sym is)
    (subst (λ (world : WorldOver g.row.H.Denot g.row.H-File.Denot). NotDone g.H.Shelf.seen g.H.File.Extent.seen 0 world roomy) c.self.view_is
    (begin_not_done g.H.Shelf.seen g.H.File.Extent.seen was roomy
    (subst (λ (world : WorldOver g.row.H.Denot g.row.H-File.Denot). IsSound g.H.Shelf.seen g.H.File.Extent.seen world) (sym c.self.view_is) c.requires.sound)
    c.reserve.new.self c.in_err-reserve.ensures.same refl))
