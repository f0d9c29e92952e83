use Rattle.volume_world.proofs.EntrySafety.{releases_safe}
use Rattle.volume_world.proofs.laws.releases_are_safe.Goals as goal

pub returns : goal.returns
returns c = releases_safe
