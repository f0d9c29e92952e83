use Rattle.std.proofs.Common.{arith, ◌%◌}
use Rattle.shard_record.proofs.RemainderTables.{tables_right}
use Rattle.shard_record.proofs.crc.entry.Goals as goal

pub returns : goal.returns
returns c = tables_right c.args.zeros (c.args.word % 256) c.requires (omega arith)
