use Rattle.shard_record.proofs.Faultless.{spells_faultless, faultless_spells, all_small}
use Rattle.shard_record.proofs.laws.spelled_or_refused.Goals as goal

pub returns : goal.returns
returns c = λ bytes small. (faultless_spells bytes (all_small bytes small), λ found. spells_faultless bytes found.0 (all_small bytes small) found.1)
