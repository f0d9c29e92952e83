use Rattle.std.proofs.Common.{◌≡◌, ◌*◌, take}
use Rattle.shard_record.specs.Crc.{remainder}
use Rattle.shard_record.proofs.crc.after_blocks.Given as goal

abbrev pub invariant-loop-block : goal.invariant-loop-block
invariant-loop-block l = l.rest ≡ remainder l.before (take (16 * l.block) l.bytes)
