-- The stations of the disks in order.
use Rattle.std.proofs.Common.{◌≡◌, ◌++◌, ◌∷◌, [], List, length, length-append, ap, sym, subst, rules, arith}
use Rattle.blob_node.specs.Station.{StationOver}
use Rattle.farm_volume.specs.Making.{AreLent}
use Rattle.farm_volume.proofs.Lent.{one_more_lent}
use Rattle.farm_volume.proofs.lending.lend_stations.Goals as goal

pub shelves-preserved : goal.shelves-preserved
shelves-preserved g c =
    let long : length c.shelves.stations.items ≡ c.shelves.stations.len = search (rules, c.shelves.stations.ok) in
    let next = c.in_default.ensures in
    let same : length c.lend_next.new.stations.items ≡ length (c.shelves.stations.items ++ next.0 ∷ []) = ap length next.1 in
    let more = length-append c.shelves.stations.items (next.0 ∷ []) in
    let less = c.shelves-test.true in (
      subst (λ (ss : List (StationOver g.row.F-Disk.Denot g.row.F-Disk-File.Denot)). AreLent g.F.Disk.Shelf.seen g.F.Disk.File.Extent.seen c.args.vid ss (g.F.Farm.seen c.args.farm.now) (g.F.Farm.seen c.lend_next.new.farm)) (sym next.1)
          (one_more_lent g.F.Disk.Shelf.seen g.F.Disk.File.Extent.seen c.args.vid (g.F.Farm.seen c.args.farm.now) (g.F.Farm.seen c.shelves.farm) c.shelves.stations.items c.shelves.invariant.0 next.0 (g.F.Farm.seen c.lend_next.new.farm) next.2),
      omega (arith, long, same, more, less, c.len.ensures),
    )
