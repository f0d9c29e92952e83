use Rattle.blob_access.proofs.CauseExampleProofs.{nothing_is_read}
use Rattle.blob_access.proofs.laws.examples_hold.Goals as goal

pub returns-clause-short : goal.returns-clause-short
returns-clause-short c = nothing_is_read
