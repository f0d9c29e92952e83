use Rattle.migrate_task.proofs.LastReplies.{last_replies_tell}
use Rattle.migrate_task.proofs.laws.last_replies_tell.Goals as goal

pub returns : goal.returns
returns c = last_replies_tell
