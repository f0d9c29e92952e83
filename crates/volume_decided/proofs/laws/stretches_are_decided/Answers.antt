use Rattle.volume_decided.proofs.StretchProofs.{stretches_are_decided}
use Rattle.volume_decided.proofs.laws.stretches_are_decided.Goals as goal

pub returns : goal.returns
returns c = stretches_are_decided
