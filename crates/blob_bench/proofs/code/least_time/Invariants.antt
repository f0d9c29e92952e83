use Rattle.std.proofs.Common.{◌≡◌}
use Rattle.blob_bench.proofs.code.least_time.Given as goal

abbrev pub invariant-loop : goal.invariant-loop
invariant-loop g l = (l.coder.data_shards ≡ l.n) × (l.coder.parity_shards ≡ l.m)
