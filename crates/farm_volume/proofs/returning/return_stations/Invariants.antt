-- The last stations' shelves are back.
use Rattle.std.proofs.Common.{length}
use Rattle.farm_volume.proofs.GoingBack.{Returning}
use Rattle.farm_volume.proofs.returning.return_stations.Given as goal

abbrev pub invariant-loop-station : goal.invariant-loop-station
invariant-loop-station g l = Returning g.F.Disk.Shelf.seen g.F.Disk.File.Extent.seen l.initial.vid l.initial.stations.items (g.F.Farm.seen l.fn.farm) l.stations.items (g.F.Farm.seen l.farm)

abbrev pub decreases-loop-station : goal.decreases-loop-station
decreases-loop-station g l = length l.stations.items
