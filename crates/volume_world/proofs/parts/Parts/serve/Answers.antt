use Rattle.std.proofs.Common.{◌≡◌, ◌∙◌, ap, sym, subst, rules, Ok, Err}
use Rattle.volume_world.specs.Asking.{FitsRequest}
use Rattle.volume_world.specs.Origins.{origin_of}
use Rattle.volume_world.specs.Serving.{Serves}
use Rattle.volume_world.specs.Stepping.{IsSound}
use Rattle.volume_world.specs.World.{WorldOver}
use Rattle.volume_world.specs.declared.fault.StepFault.TheVariants.{Memory}
use Rattle.volume_world.proofs.Served.{served_by, as_step}
use Rattle.volume_world.proofs.parts.Parts.serve.Goals as goal

-- src/serving.rt:75:12
pub returns-in_err-answer : goal.returns-in_err-answer
returns-in_err-answer g c =
    let was : WorldOver g.row.H.Denot g.row.H-File.Denot = record {
      vid = c.self.inside.stations.vid;
      shape = c.self.inside.shape;
      first = c.self.inside.first.items;
      stations = c.self.inside.stations.stations;
      entry = c.self.inside.entry;
      puts = c.self.inside.puts;
      planned = c.self.inside.link;
      late = c.self.inside.late;
      time = c.self.inside.time;
      history = c.self.inside.history;
    } in
    let sound : IsSound g.H.Shelf.seen g.H.File.Extent.seen was =
    subst (λ (world : WorldOver g.row.H.Denot g.row.H-File.Denot). IsSound g.H.Shelf.seen g.H.File.Extent.seen world) (sym c.self.view_is) c.requires.sound in
    let fits : FitsRequest (origin_of g.H.Shelf.seen g.H.File.Extent.seen was) c.args.request.now =
    subst (λ (world : WorldOver g.row.H.Denot g.row.H-File.Denot). FitsRequest (origin_of g.H.Shelf.seen g.H.File.Extent.seen world) c.args.request.now) (sym c.self.view_is) c.requires.fits in
    let gave : c.from_residual.result ≡ Err Memory = search rules in
    let is : as_step c.handle-found.result.1 ≡ c.from_residual.result = ap as_step c.in_err-answer.was ∙ sym gave in
    subst (λ result. Serves g.H.Shelf.seen g.H.File.Extent.seen c.args.request.now result c.args.self.now c.note_settle.new.self) is
    (subst (λ (world : WorldOver g.row.H.Denot g.row.H-File.Denot). Serves g.H.Shelf.seen g.H.File.Extent.seen c.args.request.now (as_step c.handle-found.result.1) world c.note_settle.new.self) c.self.view_is
    (served_by g.H.Shelf.seen g.H.File.Extent.seen c.args.request.now was c.note_settle.new.self c.handle-found.new.self c.is_in_doubt-in_doubt.result c.handle-found.result.0 c.told_of.result
    c.handle-found.result.1 c.disk_of.result sound fits c.is_in_doubt-in_doubt.ensures c.handle-found.ensures.call c.handle-found.ensures.told c.handle-found.ensures.lasts c.told_of.ensures c.disk_of.ensures
    c.note_settle.ensures.rest c.note_settle.ensures.noted))

-- src/serving.rt:66:5
pub returns : goal.returns
returns g c =
    let was : WorldOver g.row.H.Denot g.row.H-File.Denot = record {
      vid = c.self.inside.stations.vid;
      shape = c.self.inside.shape;
      first = c.self.inside.first.items;
      stations = c.self.inside.stations.stations;
      entry = c.self.inside.entry;
      puts = c.self.inside.puts;
      planned = c.self.inside.link;
      late = c.self.inside.late;
      time = c.self.inside.time;
      history = c.self.inside.history;
    } in
    let sound : IsSound g.H.Shelf.seen g.H.File.Extent.seen was =
    subst (λ (world : WorldOver g.row.H.Denot g.row.H-File.Denot). IsSound g.H.Shelf.seen g.H.File.Extent.seen world) (sym c.self.view_is) c.requires.sound in
    let fits : FitsRequest (origin_of g.H.Shelf.seen g.H.File.Extent.seen was) c.args.request.now =
    subst (λ (world : WorldOver g.row.H.Denot g.row.H-File.Denot). FitsRequest (origin_of g.H.Shelf.seen g.H.File.Extent.seen world) c.args.request.now) (sym c.self.view_is) c.requires.fits in
    let is : as_step c.handle-found.result.1 ≡ Ok c.in_ok-answer.field-0 = ap as_step c.in_ok-answer.was in
    subst (λ result. Serves g.H.Shelf.seen g.H.File.Extent.seen c.args.request.now result c.args.self.now c.note_settle.new.self) is
    (subst (λ (world : WorldOver g.row.H.Denot g.row.H-File.Denot). Serves g.H.Shelf.seen g.H.File.Extent.seen c.args.request.now (as_step c.handle-found.result.1) world c.note_settle.new.self) c.self.view_is
    (served_by g.H.Shelf.seen g.H.File.Extent.seen c.args.request.now was c.note_settle.new.self c.handle-found.new.self c.is_in_doubt-in_doubt.result c.handle-found.result.0 c.told_of.result
    c.handle-found.result.1 c.disk_of.result sound fits c.is_in_doubt-in_doubt.ensures c.handle-found.ensures.call c.handle-found.ensures.told c.handle-found.ensures.lasts c.told_of.ensures c.disk_of.ensures
    c.note_settle.ensures.rest c.note_settle.ensures.noted))
