use Rattle.std.proofs.Common.{map, take}
use Rattle.volume_entry.specs.Manager.{Transfer}
use Rattle.volume_entry.specs.HeardCalls.{AreFresh}
use Rattle.volume_entry.proofs.heard.moves_of.Given as goal

abbrev pub invariant-loop-transfer : goal.invariant-loop-transfer
invariant-loop-transfer l = AreFresh (map (λ (t : Transfer). t.index) (take l.transfer-index l.transfers)) l.moves.items
