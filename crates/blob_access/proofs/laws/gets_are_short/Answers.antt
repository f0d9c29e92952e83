use Rattle.blob_access.proofs.ShortGets.{gets_are_short}
use Rattle.blob_access.proofs.laws.gets_are_short.Goals as goal

pub returns : goal.returns
returns c = gets_are_short
