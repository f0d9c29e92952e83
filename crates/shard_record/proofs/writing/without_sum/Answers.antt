use Rattle.std.proofs.Common.{refl}
use Rattle.shard_record.specs.Spelling.{summed_part}
use Rattle.shard_record.proofs.writing.without_sum.Goals as goal

pub returns-clause-parts : goal.returns-clause-parts
unfolding summed_part
returns-clause-parts c =
    rw (
      c.in_ok-add_shard.ensures,
      c.in_ok-extend_from_slice-3.ensures.items,
      c.in_ok-extend_from_slice-2.ensures.items,
      c.in_ok-extend_from_slice.ensures.items,
      c.in_ok-out.ensures.items,
      c.to_be_bytes-2.ensures,
      c.to_be_bytes.ensures,
      c.pack.ensures.word,
      c.unit.ensures,
      c.number.ensures,
      c.kind.ensures,
    )
    refl
