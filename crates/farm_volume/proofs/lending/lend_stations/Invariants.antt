-- So many of the disks' stations are made.
use Rattle.std.proofs.Common.{◌-◌, ◌≤◌, length}
use Rattle.farm_volume.specs.Making.{AreLent}
use Rattle.farm_volume.proofs.lending.lend_stations.Given as goal

abbrev pub invariant-shelves : goal.invariant-shelves
invariant-shelves g l = AreLent g.F.Disk.Shelf.seen g.F.Disk.File.Extent.seen l.initial.vid l.stations.items (g.F.Farm.seen l.fn.farm) (g.F.Farm.seen l.farm) × (length l.stations.items ≤ l.initial.disks)

abbrev pub decreases-shelves : goal.decreases-shelves
decreases-shelves g l = l.initial.disks - length l.stations.items
