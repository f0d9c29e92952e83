use Rattle.std.proofs.Common.{◌≡◌, drop}
use Rattle.volume_entry.specs.Manager.{moved_one}
use Rattle.volume_entry.proofs.held.moved_one.Given as goal

abbrev pub invariant-loop-transfer : goal.invariant-loop-transfer
invariant-loop-transfer l = moved_one l.transfers l.index l.home ≡ moved_one (drop l.transfer-index l.transfers) l.index l.home
