use Rattle.std.proofs.Common.{◌≡◌, drop}
use Rattle.std.specs.Prelude.{not}
use Rattle.unit_id.specs.Lists.{any}
use Rattle.volume_entry.specs.Manager.{Transfer}
use Rattle.volume_entry.specs.HeardCounts.{settled_by}
use Rattle.volume_entry.specs.Shares.{due_of}
use Rattle.volume_entry.proofs.settling.some_lacks.Given as goal

abbrev pub invariant-loop-transfer : goal.invariant-loop-transfer
invariant-loop-transfer l =
    any (λ (t : Transfer). not (settled_by l.moves l.bid (due_of l.share) t.index)) l.transfers
    ≡ any (λ (t : Transfer). not (settled_by l.moves l.bid (due_of l.share) t.index)) (drop l.transfer-index l.transfers)
