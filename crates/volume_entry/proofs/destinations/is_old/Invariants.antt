use Rattle.std.proofs.Common.{◌≡◌, drop}
use Rattle.unit_id.specs.Messages.{place_at}
use Rattle.volume_entry.specs.Manager.{is_old}
use Rattle.volume_entry.proofs.destinations.is_old.Given as goal

abbrev pub invariant-loop-transfer : goal.invariant-loop-transfer
invariant-loop-transfer l = is_old l.transfers (place_at l.unit 0) ≡ is_old (drop l.transfer-index l.transfers) (place_at l.unit 0)
