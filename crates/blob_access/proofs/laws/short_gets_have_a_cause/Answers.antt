use Rattle.blob_access.proofs.ShortCauses.{short_gets_have_a_cause}
use Rattle.blob_access.proofs.laws.short_gets_have_a_cause.Goals as goal

pub returns : goal.returns
returns c = short_gets_have_a_cause
