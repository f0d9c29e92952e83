use Rattle.memory_volume.specs.Setting.{AreNew}
use Rattle.memory_volume.proofs.setup.stations.Given as goal

abbrev pub invariant-disks : goal.invariant-disks
invariant-disks l = AreNew l.count l.stations.items
