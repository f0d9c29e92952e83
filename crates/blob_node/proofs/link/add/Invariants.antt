-- As many were added as rounds are over, and there is room for the others.
use Rattle.std.proofs.Common.{◌≡◌, ◌++◌, ◌+◌, ◌-◌, ◌≤◌, replicate}
use Rattle.std.specs.VecDeque.{deque_len, deque_capacity}
use Rattle.blob_node.proofs.link.add.Given as goal

abbrev pub invariant-loop : goal.invariant-loop
invariant-loop l = (l.fates.items ≡ l.initial.fates.items ++ replicate l.counter l.fate) × (deque_len l.fates + (l.count - l.counter) ≤ deque_capacity l.fates)
