use Rattle.volume_world.proofs.RunProofs.{runs_are_borne_out}
use Rattle.volume_world.proofs.laws.runs_are_borne_out.Goals as goal

pub returns : goal.returns
returns c = runs_are_borne_out
