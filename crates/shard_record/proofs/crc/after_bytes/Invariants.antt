use Rattle.std.proofs.Common.{◌≡◌, take}
use Rattle.shard_record.specs.Crc.{remainder}
use Rattle.shard_record.proofs.crc.after_bytes.Given as goal

abbrev pub invariant-loop-at : goal.invariant-loop-at
invariant-loop-at l = l.rest ≡ remainder l.before (take l.at l.bytes)
