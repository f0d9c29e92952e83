use Rattle.std.proofs.Common.{◌≡◌, length}
use Rattle.blob_bench.proofs.code.data_set.Given as goal

abbrev pub invariant-loop-k : goal.invariant-loop-k
invariant-loop-k l = length l.shards ≡ l.total
