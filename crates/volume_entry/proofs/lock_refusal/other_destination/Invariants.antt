use Rattle.std.proofs.Common.{◌≡◌, drop}
use Rattle.volume_entry.specs.ManagerStep.{other_destination}
use Rattle.volume_entry.proofs.lock_refusal.other_destination.Given as goal

abbrev pub invariant-loop-transfer : goal.invariant-loop-transfer
invariant-loop-transfer l = other_destination l.transfers l.index l.disk ≡ other_destination (drop l.transfer-index l.transfers) l.index l.disk
