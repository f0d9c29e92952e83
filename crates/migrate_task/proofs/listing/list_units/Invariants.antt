use Rattle.std.proofs.Common.{◌≡◌, List, [], drop}
use Rattle.unit_id.specs.declared.task.Task.{Task}
use Rattle.code_mode.specs.declared.mode.Mode.{Mode}
use Rattle.volume_world.specs.Progress.{Proceeds}
use Rattle.migrate_task.specs.declared.listing.Listing.{Listing}
use Rattle.migrate_task.specs.Work.{Work}
use Rattle.migrate_task.specs.AdvanceCall.{task_call, listing_units}
use Rattle.migrate_task.proofs.listing.list_units.Given as goal

abbrev pub invariant-homes : goal.invariant-homes
invariant-homes g l = record {
  origin : (g.P.Port.seen l.port).origin ≡ (g.P.Port.seen l.fn.port).origin;
  gone : (mode : Mode) (task : Task) (work : Work) (dests : List Listing) → work.lock ≡ l.lock
      → Proceeds (task_call mode task) (g.P.Port.seen l.fn.port) (g.P.Port.seen l.port) (listing_units work dests [] l.homes) (listing_units work dests l.heard.items (drop l.home-index l.homes));
}
