use Rattle.migrate_task.proofs.TasksDone.{tasks_get_done}
use Rattle.migrate_task.proofs.laws.tasks_get_done.Goals as goal

pub returns : goal.returns
returns c = tasks_get_done
