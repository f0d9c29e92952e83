use Rattle.rs_code.proofs.Stripes.{consistent_when_n_held}
use Rattle.rs_code.proofs.laws.n_shards_are_consistent.Goals as goal

pub returns : goal.returns
returns c = consistent_when_n_held
