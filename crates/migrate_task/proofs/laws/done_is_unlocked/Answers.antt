use Rattle.migrate_task.proofs.DoneCalls.{done_is_unlocked}
use Rattle.migrate_task.proofs.laws.done_is_unlocked.Goals as goal

pub returns : goal.returns
returns c = done_is_unlocked
