use Rattle.volume_world.proofs.LawProofs.{always_kept}
use Rattle.volume_world.proofs.laws.always_kept.Goals as goal

pub returns : goal.returns
returns c = always_kept
