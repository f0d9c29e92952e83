use Rattle.memory_volume.proofs.TargetTests.{task_tells}
use Rattle.memory_volume.proofs.fitting.fits_task.Goals as goal

pub returns-then-task-eq-VID : goal.returns-then-task-eq-VID
returns-then-task-eq-VID c = λ told quiet start.
    task_tells c.args.shape told quiet start c.args.task.now c.if-task-eq-VID.true c.fits_targets.result c.fits_targets.ensures
