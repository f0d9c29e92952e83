use Rattle.std.proofs.Common.{◌≡◌}
use Rattle.memory_volume.specs.Setting.{first_homes}
use Rattle.memory_volume.proofs.first_homes.homes.Given as goal

abbrev pub invariant-indexes : goal.invariant-indexes
invariant-indexes l = l.homes ≡ first_homes l.first l.index
