use Rattle.std.proofs.Common.{refl}
use Rattle.shard_record.specs.Crc.{remainder}
use Rattle.shard_record.proofs.crc.after_blocks.Goals as goal

pub loop-block-init : goal.loop-block-init
unfolding remainder
loop-block-init c = refl
