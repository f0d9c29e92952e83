use Rattle.volume_world.proofs.KeptApart.{doubts_are_single}
use Rattle.volume_world.proofs.laws.doubts_are_single.Goals as goal

pub returns : goal.returns
returns c = doubts_are_single
