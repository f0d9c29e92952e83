use Rattle.volume_entry.proofs.LawProofs.{epochs_only_grow}
use Rattle.volume_entry.proofs.laws.epochs_only_grow.Goals as goal

pub returns : goal.returns
returns c = epochs_only_grow
