use Rattle.std.proofs.Common.{◌≡◌, ◌∙◌, sym, ap, subst}
use Rattle.unit_id.specs.Messages.{request_of}
use Rattle.volume_entry.specs.TableParts.{shape_of}
use Rattle.volume_world.specs.BlobStatus.{is_begun}
use Rattle.volume_world.specs.Sending.{bid_of, TellsSendable}
use Rattle.volume_world.specs.Stepping.{IsSound}
use Rattle.volume_world.specs.World.{WorldOver}
use Rattle.volume_world.proofs.Sendable.{told_on, tells_sendable}
use Rattle.volume_world.proofs.parts.Parts.may_send.Goals as goal

pub returns : goal.returns
returns g c =
    let was : WorldOver g.row.H.Denot g.row.H-File.Denot = record {
      vid = c.self.inside.stations.vid;
      shape = c.self.inside.shape;
      first = c.self.inside.first.items;
      stations = c.self.inside.stations.stations;
      entry = c.self.inside.entry;
      puts = c.self.inside.puts;
      planned = c.self.inside.link;
      late = c.self.inside.late;
      time = c.self.inside.time;
      history = c.self.inside.history;
    } in
    let sound : IsSound g.H.Shelf.seen g.H.File.Extent.seen was = subst (λ (world : WorldOver g.row.H.Denot g.row.H-File.Denot). IsSound g.H.Shelf.seen g.H.File.Extent.seen world) (sym c.self.view_is) c.requires.sound in
    subst (λ (world : WorldOver g.row.H.Denot g.row.H-File.Denot). TellsSendable g.H.Shelf.seen g.H.File.Extent.seen c.args.request.now world c.may_send.result) c.self.view_is
    (tells_sendable g.H.Shelf.seen g.H.File.Extent.seen c.args.request.now was c.may_send.result (λ w stands.
    c.may_send.ensures.told w.state.manager stands.manager
    ∙ told_on (shape_of was.entry.book.shape).total (shape_of was.shape).total c.is_begun-is_begun.result (is_begun (w.state.puts.status (bid_of (request_of c.args.request.now))))
    w.state.manager (request_of c.args.request.now) (ap (λ shape. (shape_of shape).total) sound.one.shape)
    (c.is_begun-is_begun.ensures (shape_of was.shape).total w.state.puts stands.puts ∙ ap (λ bid. is_begun (w.state.puts.status bid)) c.bid_of.ensures)))
