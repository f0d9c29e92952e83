use Rattle.std.proofs.Common.{◌≡◌, ◌++◌, take, drop, map}
use Rattle.migrate_task.specs.Work.{broken_at}
use Rattle.migrate_task.proofs.work.mark_homes.Given as goal

abbrev pub invariant-loop-home : goal.invariant-loop-home
invariant-loop-home l = l.homes ≡ map (broken_at l.disk) (take l.home-index l.fn.homes) ++ drop l.home-index l.fn.homes
