use Rattle.volume_decided.proofs.OpenProofs.{nothing_settles}
use Rattle.volume_decided.proofs.laws.nothing_settles.Goals as goal

pub returns : goal.returns
returns c = nothing_settles
