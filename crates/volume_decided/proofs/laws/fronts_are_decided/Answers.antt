use Rattle.volume_decided.proofs.StretchProofs.{fronts_are_decided}
use Rattle.volume_decided.proofs.laws.fronts_are_decided.Goals as goal

pub returns : goal.returns
returns g c = fronts_are_decided _ _
