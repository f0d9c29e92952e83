use Rattle.volume_world.proofs.LawProofs.{is_unreadable}
use Rattle.volume_world.proofs.laws.stays_deleted.Goals as goal

pub returns : goal.returns
returns c = is_unreadable
