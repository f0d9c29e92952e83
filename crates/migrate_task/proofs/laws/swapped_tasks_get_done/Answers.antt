use Rattle.migrate_task.proofs.SwappedCalls.{swapped_tasks_get_done}
use Rattle.migrate_task.proofs.laws.swapped_tasks_get_done.Goals as goal

pub returns : goal.returns
returns c = swapped_tasks_get_done
