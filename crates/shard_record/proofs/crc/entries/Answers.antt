use Rattle.shard_record.proofs.Remainder.{shifted_by-word}
use Rattle.shard_record.proofs.crc.entries.Goals as goal

pub returns : goal.returns
returns c =
    rw (c.entry.ensures, c.entry-2.ensures, c.entry-3.ensures, c.entry-4.ensures)
    (shifted_by-word c.args.zeros c.args.word c.ranges.word.fits)
