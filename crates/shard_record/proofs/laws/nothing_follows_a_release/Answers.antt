use Rattle.shard_record.proofs.RowsKept.{release_ends, nothing_follows}
use Rattle.shard_record.proofs.laws.nothing_follows_a_release.Goals as goal

pub returns : goal.returns
returns c = λ items more unit. (release_ends items more, nothing_follows items more unit)
