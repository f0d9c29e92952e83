use Rattle.std.proofs.Common.{◌≡◌, drop}
use Rattle.migrate_task.specs.Work.{with_old_units}
use Rattle.migrate_task.proofs.swapping.first_old.Given as goal

abbrev pub invariant-journeys : goal.invariant-journeys
invariant-journeys l = with_old_units l.journeys ≡ with_old_units (drop l.journey-index l.journeys)
