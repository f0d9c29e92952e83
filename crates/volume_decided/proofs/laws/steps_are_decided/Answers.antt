use Rattle.volume_decided.proofs.StepProofs.{steps_are_decided}
use Rattle.volume_decided.proofs.laws.steps_are_decided.Goals as goal

pub returns : goal.returns
returns c = steps_are_decided
