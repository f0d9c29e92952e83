use Rattle.volume_world.specs.Asking.{IsUnitOn}
use Rattle.memory_volume.specs.Fitting.{origin_with}
use Rattle.volume_entry.specs.Manager.{IsBid}
use Rattle.memory_volume.proofs.TargetTests.{tells_both}
use Rattle.memory_volume.proofs.fitting.fits_blob.Goals as goal

pub returns-then-is_unit_on : goal.returns-then-is_unit_on
returns-then-is_unit_on c = λ told quiet start. tells_both (IsUnitOn (origin_with c.args.shape told quiet start) c.args.unit c.args.disk) (IsBid c.args.bid) c.is_bid.result (c.if-is_unit_on.ensures told quiet start) c.is_bid.ensures

pub returns-else-is_unit_on : goal.returns-else-is_unit_on
returns-else-is_unit_on c = λ told quiet start. rw c.if-is_unit_on.false (λ both. c.if-is_unit_on.ensures told quiet start both.0)
