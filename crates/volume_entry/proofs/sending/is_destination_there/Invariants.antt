use Rattle.std.proofs.Common.{◌≡◌, drop}
use Rattle.unit_id.specs.Messages.{place_at}
use Rattle.volume_entry.specs.Manager.{is_destination_there}
use Rattle.volume_entry.proofs.sending.is_destination_there.Given as goal

abbrev pub invariant-loop-transfer : goal.invariant-loop-transfer
invariant-loop-transfer l = is_destination_there l.transfers (place_at l.unit l.disk) ≡ is_destination_there (drop l.transfer-index l.transfers) (place_at l.unit l.disk)
