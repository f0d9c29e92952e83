use Rattle.std.proofs.Common.{◌≡◌, take}
use Rattle.migrate_task.specs.Work.{journeys_to}
use Rattle.migrate_task.proofs.work.journeys_to.Given as goal

abbrev pub invariant-moves : goal.invariant-moves
invariant-moves l = l.journeys.items ≡ journeys_to l.homes (take l.item-index l.moves)
