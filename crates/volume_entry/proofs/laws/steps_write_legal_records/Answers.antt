use Rattle.volume_entry.proofs.LegalProofs.{steps_write_legal_records}
use Rattle.volume_entry.proofs.laws.steps_write_legal_records.Goals as goal

pub returns : goal.returns
returns c = steps_write_legal_records
