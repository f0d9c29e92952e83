use Rattle.std.proofs.Common.{◌≡◌, drop}
use Rattle.unit_id.specs.Lists.{any}
use Rattle.volume_entry.specs.HeardCounts.{lacks}
use Rattle.volume_entry.specs.HeardMemory.{is_released_there}
use Rattle.volume_entry.proofs.counting.some_lacks_release.Given as goal

abbrev pub invariant-loop-transfer : goal.invariant-loop-transfer
invariant-loop-transfer l = any (lacks is_released_there l.moves l.broken) l.transfers ≡ any (lacks is_released_there l.moves l.broken) (drop l.transfer-index l.transfers)
