use Rattle.shard_record.proofs.RowsKept.{deletes_kept}
use Rattle.shard_record.proofs.laws.deletes_are_kept.Goals as goal

pub returns : goal.returns
returns c = deletes_kept
