use Rattle.std.proofs.Common.{◌≡◌, length}
use Rattle.code_tests.proofs.shards.without.Given as goal

abbrev pub invariant-loop-k : goal.invariant-loop-k
invariant-loop-k l = length l.shards ≡ l.total
