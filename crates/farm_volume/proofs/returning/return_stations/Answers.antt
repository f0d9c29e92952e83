-- One shelf more is back.
use Rattle.std.proofs.Common.{◌≡◌, ◌<◌, subst, sym, true, length, rules}
use Rattle.disk_base.specs.Farms.{TakesShelfBack}
use Rattle.blob_node.proofs.HandingBack.{none_left}
use Rattle.farm_volume.proofs.GoingBack.{last_is_out, one_returned, all_returned}
use Rattle.farm_volume.proofs.returning.return_stations.Goals as goal

pub hold-requires : goal.hold-requires
hold-requires g c =
    subst (λ d. (g.F.Farm.seen c.loop-station.farm).is_out d c.args.vid ≡ true) (sym c.disk-disk.ensures)
    (last_is_out g.F.Disk.Shelf.seen g.F.Disk.File.Extent.seen c.args.vid c.args.stations.items (g.F.Farm.seen c.args.farm.now) c.loop-station.stations.items (g.F.Farm.seen c.loop-station.farm) c.loop-station.invariant
    c.pop.new.self.items c.in-Some.station c.in-Some.ensures.items)

pub loop-station-preserved : goal.loop-station-preserved
loop-station-preserved g c =
    one_returned g.F.Disk.Shelf.seen g.F.Disk.File.Extent.seen c.args.vid c.args.stations.items (g.F.Farm.seen c.args.farm.now) c.loop-station.stations.items (g.F.Farm.seen c.loop-station.farm) c.loop-station.invariant
    c.pop.new.self.items c.in-Some.station c.in-Some.ensures.items c.into_shelf.result c.into_shelf.ensures (g.F.Farm.seen c.hold.new.self)
    (subst (λ d. TakesShelfBack g.F.Disk.Shelf.seen d c.args.vid c.into_shelf.result (g.F.Farm.seen c.loop-station.farm) (g.F.Farm.seen c.hold.new.self)) c.disk-disk.ensures c.hold.ensures)

pub returns : goal.returns
returns g c =
    let length_is : length c.loop-station.stations.items ≡ c.loop-station.stations.len = search (rules, c.loop-station.stations.ok) in
    all_returned g.F.Disk.Shelf.seen g.F.Disk.File.Extent.seen c.args.vid c.args.stations.items (g.F.Farm.seen c.args.farm.now) c.loop-station.stations.items (g.F.Farm.seen c.loop-station.farm) c.loop-station.invariant
    c.requires.on (none_left c.loop-station.stations.items (λ below. c.in_default.ensures.variant.1 (subst (λ n. 0 < n) length_is below)))
