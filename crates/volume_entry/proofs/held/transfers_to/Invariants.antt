use Rattle.std.proofs.Common.{◌≡◌, take}
use Rattle.volume_entry.specs.Manager.{transfers_to}
use Rattle.volume_entry.proofs.held.transfers_to.Given as goal

abbrev pub invariant-loop-grant : goal.invariant-loop-grant
invariant-loop-grant l = l.transfers.items ≡ transfers_to (take l.grant-index l.grants) l.homes
