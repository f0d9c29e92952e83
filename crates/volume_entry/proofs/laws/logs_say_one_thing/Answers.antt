use Rattle.volume_entry.proofs.LawProofs.{logs_say_one_thing}
use Rattle.volume_entry.proofs.laws.logs_say_one_thing.Goals as goal

pub returns : goal.returns
returns c = logs_say_one_thing
