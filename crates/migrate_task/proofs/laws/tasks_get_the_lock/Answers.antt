use Rattle.migrate_task.proofs.LockedCalls.{tasks_get_the_lock}
use Rattle.migrate_task.proofs.laws.tasks_get_the_lock.Goals as goal

pub returns : goal.returns
returns c = tasks_get_the_lock
