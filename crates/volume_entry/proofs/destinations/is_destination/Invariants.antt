use Rattle.std.proofs.Common.{◌≡◌, drop}
use Rattle.unit_id.specs.Messages.{place_at}
use Rattle.volume_entry.specs.Manager.{is_destination}
use Rattle.volume_entry.proofs.destinations.is_destination.Given as goal

abbrev pub invariant-loop-transfer : goal.invariant-loop-transfer
invariant-loop-transfer l = is_destination l.transfers (place_at l.unit 0) ≡ is_destination (drop l.transfer-index l.transfers) (place_at l.unit 0)
