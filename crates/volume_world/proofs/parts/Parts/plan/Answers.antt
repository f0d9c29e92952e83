use Rattle.std.proofs.Common.{◌≡◌, ◌∙◌, sym, subst, rules, Err}
use Rattle.volume_entry.specs.Manager.{IsDisk}
use Rattle.volume_entry.specs.TableParts.{shape_of}
use Rattle.volume_world.specs.Stepping.{IsSound, Takes, Done}
use Rattle.volume_world.specs.World.{WorldOver}
use Rattle.volume_world.specs.declared.event.Event.TheVariants as events
use Rattle.volume_world.specs.declared.fault.StepFault.TheVariants.{Memory}
use Rattle.volume_world.specs.declared.reply.Reply.TheVariants as replies
use Rattle.volume_world.proofs.ClockPasses.{plan_done_to, unchanged_not_done}
use Rattle.volume_world.proofs.parts.Parts.plan.Goals as goal

pub returns : goal.returns
returns g c =
    subst (λ (world : WorldOver g.row.H.Denot g.row.H-File.Denot). Done g.H.Shelf.seen g.H.File.Extent.seen 0 world c.note.new.self (events.Plan c.args.disk c.args.fate c.args.count) replies.Done)
    c.self.view_is
    (plan_done_to g.H.Shelf.seen g.H.File.Extent.seen _ c.note.new.self
    (subst (λ (world : WorldOver g.row.H.Denot g.row.H-File.Denot). IsSound g.H.Shelf.seen g.H.File.Extent.seen world) (sym c.self.view_is) c.requires.sound)
    c.args.disk c.args.fate c.args.count c.plan.new.self
    (subst (λ (world : WorldOver g.row.H.Denot g.row.H-File.Denot). IsDisk (shape_of world.shape) c.args.disk) (sym c.self.view_is) c.requires.fits)
    c.in_ok-plan.ensures.planned c.note.ensures.noted c.note.ensures.rest)

pub returns-in_err-plan : goal.returns-in_err-plan
returns-in_err-plan g c =
    let is : c.from_residual.result ≡ Err Memory = search rules in
    let was : WorldOver g.row.H.Denot g.row.H-File.Denot = record {
      vid = c.self.inside.stations.vid;
      shape = c.self.inside.shape;
      first = c.self.inside.first.items;
      stations = c.self.inside.stations.stations;
      entry = c.self.inside.entry;
      puts = c.self.inside.puts;
      planned = c.self.inside.link;
      late = c.self.inside.late;
      time = c.self.inside.time;
      history = c.self.inside.history;
    } in
    let same : record was { planned = c.plan.new.self } ≡ c.args.self.now = (λ i. record was { planned = c.in_err-plan.ensures.err i }) ∙ c.self.view_is in
    subst (λ result. Takes g.H.Shelf.seen g.H.File.Extent.seen 0 c.args.self.now (record was { planned = c.plan.new.self }) (events.Plan c.args.disk c.args.fate c.args.count) result) (sym is)
    (unchanged_not_done g.H.Shelf.seen g.H.File.Extent.seen c.args.self.now (record was { planned = c.plan.new.self }) c.requires.sound same)
