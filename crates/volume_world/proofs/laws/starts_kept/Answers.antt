use Rattle.volume_world.proofs.LawProofs.{starts_kept}
use Rattle.volume_world.proofs.laws.starts_kept.Goals as goal

pub returns : goal.returns
returns c = starts_kept
