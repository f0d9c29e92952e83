use Rattle.volume_world.proofs.LawProofs.{runs_keep}
use Rattle.volume_world.proofs.laws.runs_keep.Goals as goal

pub returns : goal.returns
returns c = runs_keep
