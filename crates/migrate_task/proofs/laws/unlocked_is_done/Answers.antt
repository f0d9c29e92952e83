use Rattle.migrate_task.proofs.LastReplies.{unlocked_is_done}
use Rattle.migrate_task.proofs.laws.unlocked_is_done.Goals as goal

pub returns : goal.returns
returns c = unlocked_is_done
