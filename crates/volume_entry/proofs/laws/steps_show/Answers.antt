use Rattle.volume_entry.proofs.StepProofs.{steps_show}
use Rattle.volume_entry.proofs.laws.steps_show.Goals as goal

pub returns : goal.returns
returns c = steps_show
