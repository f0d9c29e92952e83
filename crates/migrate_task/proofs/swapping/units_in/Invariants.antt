use Rattle.std.proofs.Common.{◌≡◌, take}
use Rattle.migrate_task.specs.AdvanceCall.{units_in}
use Rattle.migrate_task.proofs.swapping.units_in.Given as goal

abbrev pub invariant-journeys : goal.invariant-journeys
invariant-journeys l = l.units ≡ units_in (take l.journey-index l.journeys)
