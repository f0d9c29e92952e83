use Rattle.shard_record.proofs.Remainder.{shifted_by-byte}
use Rattle.shard_record.proofs.crc.after_byte.Goals as goal

pub returns : goal.returns
returns c = rw (c.entry.ensures, c.from.ensures) (shifted_by-byte c.args.rest c.args.byte c.ranges.byte.fits)
