use Rattle.volume_entry.proofs.OneSpelling.{one_to_one}
use Rattle.volume_entry.proofs.laws.records_have_one_spelling.Goals as goal

pub returns : goal.returns
returns c = one_to_one
