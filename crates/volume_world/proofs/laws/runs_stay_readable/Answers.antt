use Rattle.volume_world.proofs.RunProofs.{runs_stay_readable}
use Rattle.volume_world.proofs.laws.runs_stay_readable.Goals as goal

pub returns : goal.returns
returns c = runs_stay_readable
