use Rattle.rs_code.proofs.Stripes.{rest_gives_each, rest_fills_to_same}
use Rattle.rs_code.proofs.laws.any_n_shards_give_all.Goals as goal

pub returns-clause-rebuilt : goal.returns-clause-rebuilt
returns-clause-rebuilt c = rest_gives_each

pub returns-clause-filled : goal.returns-clause-filled
returns-clause-filled c = rest_fills_to_same
