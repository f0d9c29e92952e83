use Rattle.volume_world.proofs.AckProofs.{acks_are_exact}
use Rattle.volume_world.proofs.laws.acks_are_exact.Goals as goal

pub returns : goal.returns
returns c = acks_are_exact
