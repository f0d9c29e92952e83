use Rattle.shard_record.proofs.Places.{one_to_one}
use Rattle.shard_record.proofs.laws.spelling_is_one_to_one.Goals as goal

pub returns : goal.returns
returns c = one_to_one
