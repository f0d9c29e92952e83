use Rattle.std.proofs.Common.{◌≡◌, ◌≤◌, ◌*◌, ◌+◌, drop}
use Rattle.cluster_admin.specs.Volumes.{units_on}
use Rattle.cluster_admin.proofs.volumes.units_on.Given as goal

abbrev pub invariant-loop-slot : goal.invariant-loop-slot
invariant-loop-slot l = (l.units + units_on (drop l.slot-index l.volumes) l.disk ≡ units_on l.volumes l.disk) × (l.units ≤ 27 * l.slot-index)
