use Rattle.std.proofs.Common.{◌≡◌, length}
use Rattle.shard_record.specs.Crc.{remainder}
use Rattle.shard_record.proofs.crc.crc32.Given as goal

abbrev pub invariant-loop-left : goal.invariant-loop-left
invariant-loop-left l = remainder l.rest l.left ≡ remainder 0xFFFF_FFFF l.bytes

abbrev pub decreases-loop-left : goal.decreases-loop-left
decreases-loop-left l = length l.left
