use Rattle.std.proofs.Common.{◌≡◌, length}
use Rattle.code_tests.proofs.shards.data_set.Given as goal

abbrev pub invariant-loop-i : goal.invariant-loop-i
invariant-loop-i l = length l.shards ≡ l.total
