use Rattle.std.proofs.Common.{◌-◌, set, sym, subst}
use Rattle.volume_world.specs.Stations.{StationsOver, HasDisk, BreaksDown}
use Rattle.volume_world.proofs.StationsFrame.{place_in, place_is, breaks_are, breaks_down}
use Rattle.volume_world.proofs.stations.Stations.break_down.Goals as goal

pub invariant_of-self : goal.invariant_of-self
invariant_of-self g c =
    let items = c.self.inside.kept.items in
    let has : HasDisk items c.args.disk = subst (λ (s : StationsOver g.row.H.Denot g.row.H-File.Denot). HasDisk s.stations c.args.disk) (sym c.self.view_is) c.requires in
    breaks_are g.H.Shelf.seen g.H.File.Extent.seen c.self.inside.vid (c.args.disk - 1) items c.index_mut-station.result.now c.break_down.new.self c.self.invariant (place_in items c.args.disk has) c.index_mut-station.ensures.value
    c.break_down.ensures

pub returns : goal.returns
returns g c =
    let items = c.self.inside.kept.items in
    let has : HasDisk items c.args.disk = subst (λ (s : StationsOver g.row.H.Denot g.row.H-File.Denot). HasDisk s.stations c.args.disk) (sym c.self.view_is) c.requires in
    subst (λ (s : StationsOver g.row.H.Denot g.row.H-File.Denot). BreaksDown g.H.Shelf.seen g.H.File.Extent.seen c.args.disk s (record { vid = c.self.inside.vid; stations = set items (c.args.disk - 1) c.break_down.new.self })) c.self.view_is
    (breaks_down g.H.Shelf.seen g.H.File.Extent.seen c.self.inside.vid (c.args.disk - 1) c.args.disk items c.index_mut-station.result.now c.break_down.new.self c.self.invariant.on (place_in items c.args.disk has)
    c.index_mut-station.ensures.value (place_is items c.args.disk has) c.break_down.ensures)
