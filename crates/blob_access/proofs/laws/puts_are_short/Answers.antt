use Rattle.blob_access.proofs.ShortPuts.{puts_are_short}
use Rattle.blob_access.proofs.laws.puts_are_short.Goals as goal

pub returns : goal.returns
returns c = puts_are_short
