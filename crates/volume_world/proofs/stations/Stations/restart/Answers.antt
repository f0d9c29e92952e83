-- The station of the disk restarts for all.
use Rattle.std.proofs.Common.{◌-◌, set, sym, subst}
use Rattle.volume_world.specs.Stations.{StationsOver, HasDisk, StationsCall, Restarted, AllOutlast}
use Rattle.volume_world.proofs.StationsFrame.{place_in, place_is, set_are, call_all}
use Rattle.volume_world.proofs.StationsLasting.{set_lasts}
use Rattle.volume_world.proofs.StationsRestart.{restarted_all}
use Rattle.volume_world.proofs.stations.Stations.restart.Goals as goal

pub invariant_of-self : goal.invariant_of-self
invariant_of-self g c =
    let items = c.self.inside.kept.items in
    let has : HasDisk items c.args.disk = subst (λ (s : StationsOver g.row.H.Denot g.row.H-File.Denot). HasDisk s.stations c.args.disk) (sym c.self.view_is) c.requires in
    set_are g.H.Shelf.seen g.H.File.Extent.seen c.self.inside.vid (c.args.disk - 1) items c.index_mut-station.result.now c.restart.new.self c.self.invariant (place_in items c.args.disk has) c.index_mut-station.ensures.value
    c.restart.ensures.call.vid c.restart.ensures.call.disk

pub returns-clause-call : goal.returns-clause-call
returns-clause-call g c =
    let items = c.self.inside.kept.items in
    let has : HasDisk items c.args.disk = subst (λ (s : StationsOver g.row.H.Denot g.row.H-File.Denot). HasDisk s.stations c.args.disk) (sym c.self.view_is) c.requires in
    subst (λ (s : StationsOver g.row.H.Denot g.row.H-File.Denot). StationsCall g.H.Shelf.seen g.H.File.Extent.seen s (record { vid = c.self.inside.vid; stations = set items (c.args.disk - 1) c.restart.new.self }) c.restart.result.1) c.self.view_is
    (call_all g.H.Shelf.seen g.H.File.Extent.seen c.self.inside.vid (c.args.disk - 1) items c.index_mut-station.result.now c.restart.new.self c.restart.result.1 (place_in items c.args.disk has) c.index_mut-station.ensures.value c.restart.ensures.call)

pub returns-clause-told : goal.returns-clause-told
returns-clause-told g c =
    let items = c.self.inside.kept.items in
    let has : HasDisk items c.args.disk = subst (λ (s : StationsOver g.row.H.Denot g.row.H-File.Denot). HasDisk s.stations c.args.disk) (sym c.self.view_is) c.requires in
    subst (λ (s : StationsOver g.row.H.Denot g.row.H-File.Denot). Restarted g.H.Shelf.seen g.H.File.Extent.seen s.vid c.args.disk c.restart.result.0.items c.restart.result.1 s.stations (set items (c.args.disk - 1) c.restart.new.self)) c.self.view_is
    (restarted_all g.H.Shelf.seen g.H.File.Extent.seen c.self.inside.vid (c.args.disk - 1) c.args.disk items c.index_mut-station.result.now c.restart.new.self c.restart.result.0.items c.self.invariant.on (place_in items c.args.disk has)
    c.index_mut-station.ensures.value (place_is items c.args.disk has) c.restart.result.1 c.restart.ensures.call.vid c.restart.ensures.call.disk c.restart.ensures.told)

pub returns-clause-lasts : goal.returns-clause-lasts
returns-clause-lasts g c =
    let items = c.self.inside.kept.items in
    let has : HasDisk items c.args.disk = subst (λ (s : StationsOver g.row.H.Denot g.row.H-File.Denot). HasDisk s.stations c.args.disk) (sym c.self.view_is) c.requires in
    subst (λ (s : StationsOver g.row.H.Denot g.row.H-File.Denot). AllOutlast g.H.Shelf.seen g.H.File.Extent.seen s.stations (set items (c.args.disk - 1) c.restart.new.self)) c.self.view_is
    (set_lasts g.H.Shelf.seen g.H.File.Extent.seen (c.args.disk - 1) items c.index_mut-station.result.now c.restart.new.self (place_in items c.args.disk has) c.index_mut-station.ensures.value
    c.restart.ensures.call.vid c.restart.ensures.call.disk c.restart.ensures.lasts)
