use Rattle.volume_decided.proofs.StretchProofs.{calls_are_decided}
use Rattle.volume_decided.proofs.laws.calls_are_decided.Goals as goal

pub returns : goal.returns
returns g c = calls_are_decided _ _
