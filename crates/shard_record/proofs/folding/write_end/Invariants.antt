use Rattle.std.proofs.Common.{◌*◌}
use Rattle.shard_record.proofs.Windows.{IsEndTo}
use Rattle.shard_record.proofs.folding.write_end.Given as goal

abbrev pub invariant-loop-k : goal.invariant-loop-k
invariant-loop-k l = IsEndTo l.bytes (16 * l.blocks) l.window (16 * l.k) l.end
