use Rattle.std.proofs.Common.{◌≡◌, drop}
use Rattle.volume_entry.specs.HeardCounts.{is_broken}
use Rattle.volume_entry.specs.ManagerStep.{has_broken_destination}
use Rattle.volume_entry.proofs.swap_refusal.has_broken_destination.Given as goal

abbrev pub invariant-loop-transfer : goal.invariant-loop-transfer
invariant-loop-transfer l = has_broken_destination (is_broken l.broken) l.transfers ≡ has_broken_destination (is_broken l.broken) (drop l.transfer-index l.transfers)
