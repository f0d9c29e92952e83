use Rattle.std.proofs.Common.{List, ◌+◌, subst, sym}
use Rattle.memory_volume.specs.Setting.{MemoryStation, AreNew}
use Rattle.memory_volume.proofs.NewStations.{stations_more}
use Rattle.memory_volume.proofs.setup.stations.Goals as goal

pub disks-preserved : goal.disks-preserved
disks-preserved c =
    subst (λ (items : List MemoryStation). AreNew (c.disks.count + 1) items) (sym c.in_ok-push.ensures.items)
    (stations_more c.disks.count c.disks.stations.items c.in_ok-station.field-0 c.disks.invariant c.in_ok-station.ensures)
