use Rattle.std.proofs.Common.{◌*◌}
use Rattle.shard_record.specs.Folding.{IsFolded}
use Rattle.shard_record.proofs.folding.fold.Given as goal

abbrev pub invariant-loop-k : goal.invariant-loop-k
invariant-loop-k l = IsFolded l.bytes (16 * l.k) l.initial.window l.window
