use Rattle.std.proofs.Common.{◌∙◌, ap, bit_xor}
use Rattle.shard_record.specs.Crc.{crc_of}
use Rattle.shard_record.proofs.Folds.{split_leaves}
use Rattle.shard_record.proofs.crc.crc32.Goals as goal

pub loop-left-preserved : goal.loop-left-preserved
loop-left-preserved c =
    split_leaves c.loop-left.rest c.after_piece-rest.result _ c.loop-left.left.now c.split_at.result.0.now c.split_at.result.1.now c.split_at.ensures.front c.split_at.ensures.back c.after_piece-rest.ensures
    ∙ c.loop-left.invariant

pub returns : goal.returns
unfolding crc_of
returns c = ap (λ r. bit_xor r 0xFFFF_FFFF) (c.after_bytes.ensures ∙ c.loop-left.invariant)
