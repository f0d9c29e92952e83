use Rattle.shard_record.proofs.Places.{prefix_free}
use Rattle.shard_record.proofs.laws.no_spelling_begins_another.Goals as goal

pub returns : goal.returns
returns c = prefix_free
