-- A station over the shelf that the farm hands out.
use Rattle.std.proofs.Common.{subst, sym}
use Rattle.blob_node.specs.Station.{StationOver}
use Rattle.farm_volume.specs.Making.{IsStationOut}
use Rattle.farm_volume.proofs.Taking.{station_out}
use Rattle.farm_volume.proofs.lending.lend_station.Goals as goal

pub returns-in-Ok : goal.returns-in-Ok
returns-in-Ok g c =
    subst (λ (s : StationOver g.row.F-Disk.Denot g.row.F-Disk-File.Denot). IsStationOut g.F.Disk.Shelf.seen g.F.Disk.File.Extent.seen c.args.vid c.args.disk s (g.F.Farm.seen c.args.farm.now) (g.F.Farm.seen c.shelf.new.self)) (sym c.make.ensures.parts)
    (station_out g.F.Disk.Shelf.seen g.F.Disk.File.Extent.seen c.args.vid c.args.disk (g.F.Farm.seen c.args.farm.now) (g.F.Farm.seen c.shelf.new.self) c.in-Ok.shelf (g.met.F.Farm.is_farm c.args.farm.now) c.requires.back c.requires.fresh c.in-Ok.ensures.call c.in-Ok.ensures.answer)
