use Rattle.shard_record.proofs.RowsKept.{fence_stays}
use Rattle.shard_record.proofs.laws.first_fence_stays.Goals as goal

pub returns : goal.returns
returns c = fence_stays
