use Rattle.migrate_task.proofs.RetargetedEnds.{locked_tasks_get_swapped}
use Rattle.migrate_task.proofs.laws.locked_tasks_get_swapped.Goals as goal

pub returns : goal.returns
returns c = locked_tasks_get_swapped
