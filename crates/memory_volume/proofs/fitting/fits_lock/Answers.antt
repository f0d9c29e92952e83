use Rattle.memory_volume.proofs.TargetTests.{lock_tells}
use Rattle.memory_volume.proofs.fitting.fits_lock.Goals as goal

pub returns : goal.returns
returns c = lock_tells c.args.shape c.args.targets.now c.fits_targets.result c.fits_targets.ensures
