-- One station more.
use Rattle.std.proofs.Common.{◌≡◌, ◌∙◌, ◌++◌, ◌∷◌, [], List, length, ap, subst, rules, arith}
use Rattle.blob_node.specs.Station.{StationOver}
use Rattle.farm_volume.specs.Making.{IsStationOut}
use Rattle.farm_volume.proofs.lending.lend_next.Goals as goal

pub returns : goal.returns
returns g c =
    let long : length c.reserve.new.self.items ≡ c.reserve.new.self.len = search (rules, c.reserve.new.self.ok) in
    let same : length c.reserve.new.self.items ≡ length c.args.stations.now.items = ap length c.reserve.ensures.items in (
      c.in_ok-station.station,
      c.push_reserved.ensures.items ∙ ap (λ (ss : List (StationOver g.row.F-Disk.Denot g.row.F-Disk-File.Denot)). ss ++ c.in_ok-station.station ∷ []) c.reserve.ensures.items,
      subst (λ d. IsStationOut g.F.Disk.Shelf.seen g.F.Disk.File.Extent.seen c.args.vid d c.in_ok-station.station (g.F.Farm.seen c.args.farm.now) (g.F.Farm.seen c.lend_station.new.farm)) (omega (arith, c.len.ensures, long, same)) c.in_ok-station.ensures,
    )
