use Rattle.shard_record.proofs.RowsKept.{gone_kept}
use Rattle.shard_record.proofs.laws.gone_rows_stay_gone.Goals as goal

pub returns : goal.returns
returns c = gone_kept
