use Rattle.std.proofs.Common.{◌≡◌, ℕ, ◌<◌, ◌≤◌, length}
use Rattle.rs_code.specs.Shards.{shard_at, completed_at}
use Rattle.rs_code.proofs.shards.move_held.Given as goal

abbrev pub invariant-loop-k : goal.invariant-loop-k
invariant-loop-k l = record {
  from_long : length l.from.items ≡ length l.initial.from.items;
  to_long : length l.to.items ≡ length l.initial.to.items;
  done : (j : ℕ) → j < l.k → shard_at l.to.items j ≡ completed_at l.initial.from.items l.initial.to.items j;
  from_left : (j : ℕ) → l.k ≤ j → shard_at l.from.items j ≡ shard_at l.initial.from.items j;
  to_left : (j : ℕ) → l.k ≤ j → shard_at l.to.items j ≡ shard_at l.initial.to.items j;
}
