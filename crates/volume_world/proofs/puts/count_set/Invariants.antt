use Rattle.std.proofs.Common.{◌≡◌, ◌≤◌, false, get_or}
use Rattle.unit_id.specs.Lists.{count_below}
use Rattle.volume_world.proofs.puts.count_set.Given as goal

abbrev pub invariant-loop-index : goal.invariant-loop-index
invariant-loop-index l = record { counted : l.count ≡ count_below l.index (λ i. get_or l.flags i false); most : l.count ≤ l.index }
