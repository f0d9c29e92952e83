use Rattle.volume_world.proofs.KeptApart.{disks_hold_one_unit}
use Rattle.volume_world.proofs.laws.disks_hold_one_unit.Goals as goal

pub returns : goal.returns
returns c = disks_hold_one_unit
