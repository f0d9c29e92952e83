use Rattle.volume_world.proofs.LawProofs.{is_readable}
use Rattle.volume_world.proofs.laws.stays_readable.Goals as goal

pub returns : goal.returns
returns c = is_readable
