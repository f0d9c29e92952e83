use Rattle.std.proofs.Common.{◌≡◌, sym, subst, rules, List, Result, Err}
use Rattle.unit_id.specs.declared.answer.Answer.{Answer}
use Rattle.disk_base.specs.declared.fault.NoMemory.{NoMemory}
use Rattle.blob_node.specs.declared.settled.Settled.{Settled}
use Rattle.volume_entry.specs.Manager.{IsDisk}
use Rattle.volume_entry.specs.TableParts.{shape_of}
use Rattle.volume_world.specs.History.{IsNoted}
use Rattle.volume_world.specs.Restarting.{NotesFirst}
use Rattle.volume_world.specs.Stations.{StationsCall, Restarted}
use Rattle.volume_world.specs.Stepping.{IsSound, Takes, Done}
use Rattle.volume_world.specs.Trace.{reply_kept}
use Rattle.volume_world.specs.World.{WorldOver}
use Rattle.volume_world.specs.declared.event.Event.TheVariants as events
use Rattle.volume_world.specs.declared.fault.StepFault.TheVariants.{Memory}
use Rattle.volume_world.specs.declared.reply.Reply.{Reply}
use Rattle.volume_world.specs.declared.trace.TraceEvent.TheVariants as kept_event
use Rattle.volume_world.specs.declared.trace.TraceReply.{TraceReply}
use Rattle.volume_world.proofs.RestartPasses.{restart_done_to, restart_not_done_to}
use Rattle.volume_world.proofs.parts.Parts.restart.Goals as goal

pub returns-in_err-answer : goal.returns-in_err-answer
returns-in_err-answer g c =
    let is : c.from_residual.result ≡ Err Memory = search rules in
    let was : WorldOver g.row.H.Denot g.row.H-File.Denot = record {
      vid = c.self.inside.stations.vid;
      shape = c.self.inside.shape;
      first = c.self.inside.first.items;
      stations = c.self.inside.stations.stations;
      entry = c.self.inside.entry;
      puts = c.self.inside.puts;
      planned = c.self.inside.link;
      late = c.self.inside.late;
      time = c.self.inside.time;
      history = c.self.inside.history;
    } in
    let items = c.restart-settled.result.0.items in
    let sound = subst (λ (world : WorldOver g.row.H.Denot g.row.H-File.Denot). IsSound g.H.Shelf.seen
    g.H.File.Extent.seen world) (sym c.self.view_is) c.requires.sound in
    let fits = subst (λ (world : WorldOver g.row.H.Denot g.row.H-File.Denot). IsDisk (shape_of world.shape) c.args.disk)
    (sym c.self.view_is) c.requires.fits in
    let first = subst (λ (xs : List Settled). NotesFirst c.args.disk xs was.history c.note_settled.new.self.history)
    c.as_slice.ensures.value c.note_settled.ensures.noted in
    let call = subst (λ (result : Result Answer NoMemory). StationsCall g.H.Shelf.seen g.H.File.Extent.seen
    (record { vid = was.vid; stations = was.stations }) c.restart-settled.new.self result)
    c.in_err-answer.was c.restart-settled.ensures.call in
    let told = subst (λ (result : Result Answer NoMemory). Restarted g.H.Shelf.seen g.H.File.Extent.seen was.vid
    c.args.disk items result was.stations c.restart-settled.new.self.stations)
    c.in_err-answer.was c.restart-settled.ensures.told in
    subst (λ (world : WorldOver g.row.H.Denot g.row.H-File.Denot). Takes g.H.Shelf.seen g.H.File.Extent.seen 1 world
    c.note_settled.new.self (events.Restart c.args.disk) c.from_residual.result) c.self.view_is
    (subst (λ result. Takes g.H.Shelf.seen g.H.File.Extent.seen 1 was c.note_settled.new.self
    (events.Restart c.args.disk) result) (sym is)
    (restart_not_done_to g.H.Shelf.seen g.H.File.Extent.seen c.args.disk items c.restart-settled.new.self was
    c.note_settled.new.self sound fits c.restart-settled.ensures.lasts
    c.note_settled.ensures.rest first c.in_err-answer.field-0.0 call told))

pub returns : goal.returns
returns g c =
    let was : WorldOver g.row.H.Denot g.row.H-File.Denot = record {
      vid = c.self.inside.stations.vid;
      shape = c.self.inside.shape;
      first = c.self.inside.first.items;
      stations = c.self.inside.stations.stations;
      entry = c.self.inside.entry;
      puts = c.self.inside.puts;
      planned = c.self.inside.link;
      late = c.self.inside.late;
      time = c.self.inside.time;
      history = c.self.inside.history;
    } in
    let items = c.restart-settled.result.0.items in
    let answer = c.in_ok-answer.answer in
    let sound = subst (λ (world : WorldOver g.row.H.Denot g.row.H-File.Denot). IsSound g.H.Shelf.seen
    g.H.File.Extent.seen world) (sym c.self.view_is) c.requires.sound in
    let fits = subst (λ (world : WorldOver g.row.H.Denot g.row.H-File.Denot). IsDisk (shape_of world.shape) c.args.disk)
    (sym c.self.view_is) c.requires.fits in
    let first = subst (λ (xs : List Settled). NotesFirst c.args.disk xs was.history c.note_settled.new.self.history)
    c.as_slice.ensures.value c.note_settled.ensures.noted in
    let call = subst (λ (result : Result Answer NoMemory). StationsCall g.H.Shelf.seen g.H.File.Extent.seen
    (record { vid = was.vid; stations = was.stations }) c.restart-settled.new.self result)
    c.in_ok-answer.was c.restart-settled.ensures.call in
    let told = subst (λ (result : Result Answer NoMemory). Restarted g.H.Shelf.seen g.H.File.Extent.seen was.vid
    c.args.disk items result was.stations c.restart-settled.new.self.stations)
    c.in_ok-answer.was c.restart-settled.ensures.told in
    let kept = subst (λ (reply : TraceReply). IsNoted (record { event = kept_event.Restart c.args.disk; reply = reply })
    c.note_settled.new.self.history c.note.new.self.history) c.kept.ensures c.note.ensures.noted in
    let noted = subst (λ (reply : Reply). IsNoted (record
    { event = kept_event.Restart c.args.disk; reply = reply_kept reply }) c.note_settled.new.self.history
    c.note.new.self.history) c.restart_reply-reply.ensures kept in
    subst (λ (world : WorldOver g.row.H.Denot g.row.H-File.Denot). Done g.H.Shelf.seen g.H.File.Extent.seen 1 world
    c.note.new.self (events.Restart c.args.disk) c.restart_reply-reply.result) c.self.view_is
    (subst (λ (reply : Reply). Done g.H.Shelf.seen g.H.File.Extent.seen 1 was c.note.new.self
    (events.Restart c.args.disk) reply) (sym c.restart_reply-reply.ensures)
    (restart_done_to g.H.Shelf.seen g.H.File.Extent.seen c.args.disk items c.restart-settled.new.self was
    c.note_settled.new.self sound fits c.restart-settled.ensures.lasts
    c.note_settled.ensures.rest first c.note.new.self answer call told c.note.ensures.rest noted))
