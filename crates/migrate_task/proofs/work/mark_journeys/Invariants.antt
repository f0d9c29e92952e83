use Rattle.std.proofs.Common.{◌≡◌, ◌++◌, take, drop, map}
use Rattle.migrate_task.specs.Work.{old_broken_at}
use Rattle.migrate_task.proofs.work.mark_journeys.Given as goal

abbrev pub invariant-loop-journey : goal.invariant-loop-journey
invariant-loop-journey l = l.journeys ≡ map (old_broken_at l.disk) (take l.journey-index l.fn.journeys) ++ drop l.journey-index l.fn.journeys
