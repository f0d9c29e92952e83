use Rattle.migrate_task.proofs.LastReplies.{replies_end_calls}
use Rattle.migrate_task.proofs.laws.replies_end_calls.Goals as goal

pub returns : goal.returns
returns c = replies_end_calls
