use Rattle.std.proofs.Common.{map, take}
use Rattle.volume_entry.specs.Manager.{Grant}
use Rattle.volume_entry.specs.HeardCalls.{AreFresh}
use Rattle.volume_entry.proofs.heard.moves_for.Given as goal

abbrev pub invariant-loop-grant : goal.invariant-loop-grant
invariant-loop-grant l = AreFresh (map (λ (t : Grant). t.index) (take l.grant-index l.grants)) l.moves.items
