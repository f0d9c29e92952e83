use Rattle.std.proofs.Common.{◌≡◌, [], drop}
use Rattle.unit_id.specs.declared.task.Task.{Task}
use Rattle.code_mode.specs.declared.mode.Mode.{Mode}
use Rattle.volume_world.specs.Progress.{Proceeds}
use Rattle.migrate_task.specs.Work.{Work}
use Rattle.migrate_task.specs.AdvanceCall.{task_call, listing_dests}
use Rattle.migrate_task.proofs.listing.list_dests.Given as goal

abbrev pub invariant-journeys : goal.invariant-journeys
invariant-journeys g l = record {
  origin : (g.P.Port.seen l.port).origin ≡ (g.P.Port.seen l.fn.port).origin;
  gone : (mode : Mode) (task : Task) (work : Work) → work.lock ≡ l.lock
      → Proceeds (task_call mode task) (g.P.Port.seen l.fn.port) (g.P.Port.seen l.port) (listing_dests work [] l.journeys) (listing_dests work l.dests.items (drop l.journey-index l.journeys));
}
