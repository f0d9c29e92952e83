use Rattle.std.proofs.Common.{◌≡◌, ◌∙◌, ap, refl, sym, subst, rules, drop, true, false, IsSome, ◌∷◌, Ok, Err}
use Rattle.volume_entry.specs.TableParts.{shape_of}
use Rattle.volume_entry.proofs.SoundParts.{few_units}
use Rattle.volume_world.specs.Asking.{FitsRequest}
use Rattle.volume_world.specs.History.{IsNoted}
use Rattle.volume_world.specs.Origins.{origin_of}
use Rattle.volume_world.specs.Serving.{Serves}
use Rattle.volume_world.specs.Stepping.{IsSound, Takes, Done, NotDone}
use Rattle.volume_world.specs.Trace.{trace_of}
use Rattle.volume_world.specs.World.{WorldOver}
use Rattle.volume_world.specs.declared.event.Event.TheVariants as events
use Rattle.volume_world.specs.declared.fault.StepFault.TheVariants.{Memory}
use Rattle.volume_world.specs.declared.late.LateItem.TheVariants as items
use Rattle.volume_world.specs.declared.reply.Reply.TheVariants as replies
use Rattle.volume_world.proofs.AskedUnits.{asks_volume}
use Rattle.volume_world.proofs.FlushedPasses.{first_fits, first_on, nothing_late, request_arrives, answer_arrives, answer_stays}
use Rattle.volume_world.proofs.HeardWorlds.{heard_stands, unheard_stands}
use Rattle.volume_world.proofs.Served.{served_by, as_step}
use Rattle.volume_world.proofs.ServedPasses.{not_served}
use Rattle.volume_world.proofs.parts.Parts.flush.Goals as goal

pub is_in_doubt-in_doubt-requires-clause-vid : goal.is_in_doubt-in_doubt-requires-clause-vid
is_in_doubt-in_doubt-requires-clause-vid g c =
    let was : WorldOver g.row.H.Denot g.row.H-File.Denot = record {
      vid = c.self.inside.stations.vid;
      shape = c.self.inside.shape;
      first = c.self.inside.first.items;
      stations = c.self.inside.stations.stations;
      entry = c.self.inside.entry;
      puts = c.self.inside.puts;
      planned = c.self.inside.link;
      late = c.self.inside.late;
      time = c.self.inside.time;
      history = c.self.inside.history;
    } in
    let sound : IsSound g.H.Shelf.seen g.H.File.Extent.seen was =
    subst (λ (world : WorldOver g.row.H.Denot g.row.H-File.Denot). IsSound g.H.Shelf.seen g.H.File.Extent.seen world) (sym c.self.view_is) c.requires.sound in
    let request = c.in-Some-Request.request in
    let late : was.late.items ≡ items.Request request ∷ drop 1 was.late.items =
    subst (λ item. was.late.items ≡ item ∷ drop 1 was.late.items) c.in-Some-Request.field-0-is c.in-Some-Request.ensures in
    let fits = first_fits g.H.Shelf.seen g.H.File.Extent.seen was request (drop 1 was.late.items) sound late in
    asks_volume (origin_of g.H.Shelf.seen g.H.File.Extent.seen was) request fits

pub is_in_doubt-in_doubt-requires-clause-disk : goal.is_in_doubt-in_doubt-requires-clause-disk
is_in_doubt-in_doubt-requires-clause-disk g c =
    let was : WorldOver g.row.H.Denot g.row.H-File.Denot = record {
      vid = c.self.inside.stations.vid;
      shape = c.self.inside.shape;
      first = c.self.inside.first.items;
      stations = c.self.inside.stations.stations;
      entry = c.self.inside.entry;
      puts = c.self.inside.puts;
      planned = c.self.inside.link;
      late = c.self.inside.late;
      time = c.self.inside.time;
      history = c.self.inside.history;
    } in
    let sound : IsSound g.H.Shelf.seen g.H.File.Extent.seen was =
    subst (λ (world : WorldOver g.row.H.Denot g.row.H-File.Denot). IsSound g.H.Shelf.seen g.H.File.Extent.seen world) (sym c.self.view_is) c.requires.sound in
    let request = c.in-Some-Request.request in
    let late : was.late.items ≡ items.Request request ∷ drop 1 was.late.items =
    subst (λ item. was.late.items ≡ item ∷ drop 1 was.late.items) c.in-Some-Request.field-0-is c.in-Some-Request.ensures in
    let fits = first_fits g.H.Shelf.seen g.H.File.Extent.seen was request (drop 1 was.late.items) sound late in
    first_on g.H.Shelf.seen g.H.File.Extent.seen was request sound fits

pub handle-found-requires-clause-vid : goal.handle-found-requires-clause-vid
handle-found-requires-clause-vid g c =
    let was : WorldOver g.row.H.Denot g.row.H-File.Denot = record {
      vid = c.self.inside.stations.vid;
      shape = c.self.inside.shape;
      first = c.self.inside.first.items;
      stations = c.self.inside.stations.stations;
      entry = c.self.inside.entry;
      puts = c.self.inside.puts;
      planned = c.self.inside.link;
      late = c.self.inside.late;
      time = c.self.inside.time;
      history = c.self.inside.history;
    } in
    let sound : IsSound g.H.Shelf.seen g.H.File.Extent.seen was =
    subst (λ (world : WorldOver g.row.H.Denot g.row.H-File.Denot). IsSound g.H.Shelf.seen g.H.File.Extent.seen world) (sym c.self.view_is) c.requires.sound in
    let request = c.in-Some-Request.request in
    let late : was.late.items ≡ items.Request request ∷ drop 1 was.late.items =
    subst (λ item. was.late.items ≡ item ∷ drop 1 was.late.items) c.in-Some-Request.field-0-is c.in-Some-Request.ensures in
    let fits = first_fits g.H.Shelf.seen g.H.File.Extent.seen was request (drop 1 was.late.items) sound late in
    asks_volume (origin_of g.H.Shelf.seen g.H.File.Extent.seen was) request fits

pub handle-found-requires-clause-disk : goal.handle-found-requires-clause-disk
handle-found-requires-clause-disk g c =
    let was : WorldOver g.row.H.Denot g.row.H-File.Denot = record {
      vid = c.self.inside.stations.vid;
      shape = c.self.inside.shape;
      first = c.self.inside.first.items;
      stations = c.self.inside.stations.stations;
      entry = c.self.inside.entry;
      puts = c.self.inside.puts;
      planned = c.self.inside.link;
      late = c.self.inside.late;
      time = c.self.inside.time;
      history = c.self.inside.history;
    } in
    let sound : IsSound g.H.Shelf.seen g.H.File.Extent.seen was =
    subst (λ (world : WorldOver g.row.H.Denot g.row.H-File.Denot). IsSound g.H.Shelf.seen g.H.File.Extent.seen world) (sym c.self.view_is) c.requires.sound in
    let request = c.in-Some-Request.request in
    let late : was.late.items ≡ items.Request request ∷ drop 1 was.late.items =
    subst (λ item. was.late.items ≡ item ∷ drop 1 was.late.items) c.in-Some-Request.field-0-is c.in-Some-Request.ensures in
    let fits = first_fits g.H.Shelf.seen g.H.File.Extent.seen was request (drop 1 was.late.items) sound late in
    first_on g.H.Shelf.seen g.H.File.Extent.seen was request sound fits

pub handle-found-requires-clause-sizes : goal.handle-found-requires-clause-sizes
handle-found-requires-clause-sizes g c =
    let was : WorldOver g.row.H.Denot g.row.H-File.Denot = record {
      vid = c.self.inside.stations.vid;
      shape = c.self.inside.shape;
      first = c.self.inside.first.items;
      stations = c.self.inside.stations.stations;
      entry = c.self.inside.entry;
      puts = c.self.inside.puts;
      planned = c.self.inside.link;
      late = c.self.inside.late;
      time = c.self.inside.time;
      history = c.self.inside.history;
    } in
    let sound : IsSound g.H.Shelf.seen g.H.File.Extent.seen was =
    subst (λ (world : WorldOver g.row.H.Denot g.row.H-File.Denot). IsSound g.H.Shelf.seen g.H.File.Extent.seen world) (sym c.self.view_is) c.requires.sound in
    let request = c.in-Some-Request.request in
    let late : was.late.items ≡ items.Request request ∷ drop 1 was.late.items =
    subst (λ item. was.late.items ≡ item ∷ drop 1 was.late.items) c.in-Some-Request.field-0-is c.in-Some-Request.ensures in
    let fits = first_fits g.H.Shelf.seen g.H.File.Extent.seen was request (drop 1 was.late.items) sound late in
    let fit : FitsRequest (origin_of g.H.Shelf.seen g.H.File.Extent.seen was) c.in-Some-Request.request = fits in
    search rules

pub returns-in_err-answer-in-Some-Request : goal.returns-in_err-answer-in-Some-Request
returns-in_err-answer-in-Some-Request g c =
    let was : WorldOver g.row.H.Denot g.row.H-File.Denot = record {
      vid = c.self.inside.stations.vid;
      shape = c.self.inside.shape;
      first = c.self.inside.first.items;
      stations = c.self.inside.stations.stations;
      entry = c.self.inside.entry;
      puts = c.self.inside.puts;
      planned = c.self.inside.link;
      late = c.self.inside.late;
      time = c.self.inside.time;
      history = c.self.inside.history;
    } in
    let sound : IsSound g.H.Shelf.seen g.H.File.Extent.seen was =
    subst (λ (world : WorldOver g.row.H.Denot g.row.H-File.Denot). IsSound g.H.Shelf.seen g.H.File.Extent.seen world) (sym c.self.view_is) c.requires.sound in
    let request = c.in-Some-Request.request in
    let late : was.late.items ≡ items.Request request ∷ drop 1 was.late.items =
    subst (λ item. was.late.items ≡ item ∷ drop 1 was.late.items) c.in-Some-Request.field-0-is c.in-Some-Request.ensures in
    let fits = first_fits g.H.Shelf.seen g.H.File.Extent.seen was request (drop 1 was.late.items) sound late in
    let gave : c.from_residual.result ≡ Err Memory = search rules in
    let is : as_step c.handle-found.result.1 ≡ Err Memory = ap as_step c.in_err-answer-in-Some-Request.was in
    subst (λ result. Takes g.H.Shelf.seen g.H.File.Extent.seen 1 c.args.self.now c.note_settle.new.self events.FlushOne result) (sym gave)
    (subst (λ (world : WorldOver g.row.H.Denot g.row.H-File.Denot). NotDone g.H.Shelf.seen g.H.File.Extent.seen 1 world c.note_settle.new.self) c.self.view_is
    (not_served g.H.Shelf.seen g.H.File.Extent.seen request was c.note_settle.new.self sound
    (subst (λ result. Serves g.H.Shelf.seen g.H.File.Extent.seen request result was c.note_settle.new.self) is
    (served_by g.H.Shelf.seen g.H.File.Extent.seen request was c.note_settle.new.self c.handle-found.new.self c.is_in_doubt-in_doubt.result c.handle-found.result.0 c.told_of.result
    c.handle-found.result.1 c.disk_of-disk.result sound fits c.is_in_doubt-in_doubt.ensures c.handle-found.ensures.call c.handle-found.ensures.told c.handle-found.ensures.lasts c.told_of.ensures
    c.disk_of-disk.ensures c.note_settle.ensures.rest c.note_settle.ensures.noted))))

pub returns-in_ok-answer-in-Some-Request : goal.returns-in_ok-answer-in-Some-Request
returns-in_ok-answer-in-Some-Request g c =
    let was : WorldOver g.row.H.Denot g.row.H-File.Denot = record {
      vid = c.self.inside.stations.vid;
      shape = c.self.inside.shape;
      first = c.self.inside.first.items;
      stations = c.self.inside.stations.stations;
      entry = c.self.inside.entry;
      puts = c.self.inside.puts;
      planned = c.self.inside.link;
      late = c.self.inside.late;
      time = c.self.inside.time;
      history = c.self.inside.history;
    } in
    let sound : IsSound g.H.Shelf.seen g.H.File.Extent.seen was =
    subst (λ (world : WorldOver g.row.H.Denot g.row.H-File.Denot). IsSound g.H.Shelf.seen g.H.File.Extent.seen world) (sym c.self.view_is) c.requires.sound in
    let request = c.in-Some-Request.request in
    let late : was.late.items ≡ items.Request request ∷ drop 1 was.late.items =
    subst (λ item. was.late.items ≡ item ∷ drop 1 was.late.items) c.in-Some-Request.field-0-is c.in-Some-Request.ensures in
    let fits = first_fits g.H.Shelf.seen g.H.File.Extent.seen was request (drop 1 was.late.items) sound late in
    let answer = c.in_ok-answer-in-Some-Request.field-0 in
    let is : as_step c.handle-found.result.1 ≡ Ok answer = ap as_step c.in_ok-answer-in-Some-Request.was in
    let serves : Serves g.H.Shelf.seen g.H.File.Extent.seen request (Ok answer) was c.note_settle.new.self =
    subst (λ result. Serves g.H.Shelf.seen g.H.File.Extent.seen request result was c.note_settle.new.self) is
    (served_by g.H.Shelf.seen g.H.File.Extent.seen request was c.note_settle.new.self c.handle-found.new.self c.is_in_doubt-in_doubt.result c.handle-found.result.0 c.told_of.result
    c.handle-found.result.1 c.disk_of-disk.result sound fits c.is_in_doubt-in_doubt.ensures c.handle-found.ensures.call c.handle-found.ensures.told c.handle-found.ensures.lasts c.told_of.ensures
    c.disk_of-disk.ensures c.note_settle.ensures.rest c.note_settle.ensures.noted) in
    let left : c.flushed.new.self.late.items ≡ drop 1 was.late.items =
    c.flushed.ensures.taken ∙ ap (λ (world : WorldOver g.row.H.Denot g.row.H-File.Denot). drop 1 world.late.items) serves.rest in
    subst (λ reply. Done g.H.Shelf.seen g.H.File.Extent.seen 1 c.args.self.now c.flushed.new.self events.FlushOne reply) (sym c.flushed.ensures.told)
    (subst (λ (world : WorldOver g.row.H.Denot g.row.H-File.Denot). Done g.H.Shelf.seen g.H.File.Extent.seen 1 world c.flushed.new.self events.FlushOne (replies.Flushed true)) c.self.view_is
    (request_arrives g.H.Shelf.seen g.H.File.Extent.seen request answer was c.note_settle.new.self c.flushed.new.self serves c.flushed.ensures.rest
    (late ∙ ap (λ rest. items.Request request ∷ rest) (sym left))
    (subst (λ (world : WorldOver g.row.H.Denot g.row.H-File.Denot). IsSome world.entry.book.log.end) (sym c.self.view_is) c.requires.open) sound
    (subst (λ reply. IsNoted (trace_of events.FlushOne reply) c.note_settle.new.self.history c.flushed.new.self.history) c.flushed.ensures.told c.flushed.ensures.noted)))

pub returns-in-None : goal.returns-in-None
returns-in-None g c =
    nothing_late g.H.Shelf.seen g.H.File.Extent.seen c.args.self.now c.note.new.self c.requires.sound c.requires.open
    (ap (λ (world : WorldOver g.row.H.Denot g.row.H-File.Denot). world.late.items) (sym c.self.view_is) ∙ c.in-None.ensures) c.note.ensures.noted c.note.ensures.rest

pub returns-in-Err : goal.returns-in-Err
returns-in-Err g c =
    let was : WorldOver g.row.H.Denot g.row.H-File.Denot = record {
      vid = c.self.inside.stations.vid;
      shape = c.self.inside.shape;
      first = c.self.inside.first.items;
      stations = c.self.inside.stations.stations;
      entry = c.self.inside.entry;
      puts = c.self.inside.puts;
      planned = c.self.inside.link;
      late = c.self.inside.late;
      time = c.self.inside.time;
      history = c.self.inside.history;
    } in
    let sound : IsSound g.H.Shelf.seen g.H.File.Extent.seen was =
    subst (λ (world : WorldOver g.row.H.Denot g.row.H-File.Denot). IsSound g.H.Shelf.seen g.H.File.Extent.seen world) (sym c.self.view_is) c.requires.sound in
    let still : WorldOver g.row.H.Denot g.row.H-File.Denot = record was { entry = c.hear.new.self } in
    subst (λ (world : WorldOver g.row.H.Denot g.row.H-File.Denot). NotDone g.H.Shelf.seen g.H.File.Extent.seen 1 world still) c.self.view_is
    (answer_stays g.H.Shelf.seen g.H.File.Extent.seen was still sound refl c.hear.ensures.book.0 c.hear.ensures.book.1
    (λ w stands. unheard_stands g.H.Shelf.seen g.H.File.Extent.seen was still w refl c.hear.ensures.book.1 c.in-Err.ensures.same refl stands))

pub returns-in-Ok : goal.returns-in-Ok
returns-in-Ok g c =
    let was : WorldOver g.row.H.Denot g.row.H-File.Denot = record {
      vid = c.self.inside.stations.vid;
      shape = c.self.inside.shape;
      first = c.self.inside.first.items;
      stations = c.self.inside.stations.stations;
      entry = c.self.inside.entry;
      puts = c.self.inside.puts;
      planned = c.self.inside.link;
      late = c.self.inside.late;
      time = c.self.inside.time;
      history = c.self.inside.history;
    } in
    let sound : IsSound g.H.Shelf.seen g.H.File.Extent.seen was =
    subst (λ (world : WorldOver g.row.H.Denot g.row.H-File.Denot). IsSound g.H.Shelf.seen g.H.File.Extent.seen world) (sym c.self.view_is) c.requires.sound in
    let request = c.in-Some-Answer.request in
    let answer = c.in-Some-Answer.answer in
    let late : was.late.items ≡ items.Answer request answer ∷ drop 1 was.late.items =
    subst (λ item. was.late.items ≡ item ∷ drop 1 was.late.items) c.in-Some-Answer.field-0-is c.in-Some-Answer.ensures in
    let heard : WorldOver g.row.H.Denot g.row.H-File.Denot = record was { entry = c.hear.new.self; puts = c.hear-in-Ok.new.self } in
    subst (λ reply. Done g.H.Shelf.seen g.H.File.Extent.seen 1 c.args.self.now c.flushed-in-Ok.new.self events.FlushOne reply) (sym c.flushed-in-Ok.ensures.told)
    (subst (λ (world : WorldOver g.row.H.Denot g.row.H-File.Denot). Done g.H.Shelf.seen g.H.File.Extent.seen 1 world c.flushed-in-Ok.new.self events.FlushOne (replies.Flushed false)) c.self.view_is
    (answer_arrives g.H.Shelf.seen g.H.File.Extent.seen request answer was heard c.flushed-in-Ok.new.self sound refl c.hear.ensures.book.0 c.hear.ensures.book.1
    (λ w stands. heard_stands g.H.Shelf.seen g.H.File.Extent.seen was heard w refl c.hear.ensures.book.1 request answer (c.in-Ok.ensures.told w.state.manager stands.manager)
    (c.hear-in-Ok.ensures (shape_of was.shape).total w.state.puts (few_units was.shape) stands.puts) stands)
    c.flushed-in-Ok.ensures.rest (subst (λ (world : WorldOver g.row.H.Denot g.row.H-File.Denot). IsSome world.entry.book.log.end) (sym c.self.view_is) c.requires.open)
    (late ∙ ap (λ rest. items.Answer request answer ∷ rest) (sym c.flushed-in-Ok.ensures.taken))
    (subst (λ reply. IsNoted (trace_of events.FlushOne reply) was.history c.flushed-in-Ok.new.self.history) c.flushed-in-Ok.ensures.told c.flushed-in-Ok.ensures.noted)))
