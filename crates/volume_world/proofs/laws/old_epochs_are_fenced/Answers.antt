use Rattle.volume_world.proofs.OldEpochs.{old_fenced}
use Rattle.volume_world.proofs.laws.old_epochs_are_fenced.Goals as goal

pub returns : goal.returns
returns c = old_fenced
