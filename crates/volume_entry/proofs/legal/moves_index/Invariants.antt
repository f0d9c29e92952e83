use Rattle.std.proofs.Common.{◌≡◌, ◌==◌, drop}
use Rattle.unit_id.specs.Lists.{any}
use Rattle.volume_entry.specs.Manager.{Transfer}
use Rattle.volume_entry.proofs.legal.moves_index.Given as goal

abbrev pub invariant-loop-transfer : goal.invariant-loop-transfer
invariant-loop-transfer l = any (λ (t : Transfer). t.index == l.index) l.transfers ≡ any (λ (t : Transfer). t.index == l.index) (drop l.transfer-index l.transfers)
