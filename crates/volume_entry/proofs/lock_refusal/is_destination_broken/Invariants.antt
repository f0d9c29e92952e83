use Rattle.std.proofs.Common.{◌≡◌, drop}
use Rattle.volume_entry.specs.Entry.{is_broken}
use Rattle.volume_entry.specs.ManagerStep.{is_destination_broken}
use Rattle.volume_entry.proofs.lock_refusal.is_destination_broken.Given as goal

abbrev pub invariant-loop-transfer : goal.invariant-loop-transfer
invariant-loop-transfer l = is_destination_broken (is_broken l.broken) l.transfers l.index ≡ is_destination_broken (is_broken l.broken) (drop l.transfer-index l.transfers) l.index
