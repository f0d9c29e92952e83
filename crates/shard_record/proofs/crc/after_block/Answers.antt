use Rattle.shard_record.proofs.Remainder.{remainder-block}
use Rattle.shard_record.proofs.crc.after_block.Goals as goal

pub returns : goal.returns
returns c before e =
    rw (
      c.entries.ensures,
      c.entries-2.ensures,
      c.entries-3.ensures,
      c.entries-4.ensures,
      c.word_at.ensures,
      c.word_at-2.ensures,
      c.word_at-3.ensures,
      c.word_at-4.ensures,
    )
    (remainder-block before c.args.at c.args.rest c.args.bytes.now c.requires (λ k. (c.type_inv.bytes k).fits) e)
