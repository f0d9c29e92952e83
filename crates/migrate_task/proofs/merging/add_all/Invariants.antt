use Rattle.std.proofs.Common.{◌≡◌, List, ◌++◌, drop}
use Rattle.migrate_task.specs.declared.listing.Listing.{Listing}
use Rattle.migrate_task.specs.Work.{errands_over}
use Rattle.migrate_task.specs.Merging.{AreOrderOf}
use Rattle.migrate_task.specs.TaskParts.{work_of}
use Rattle.migrate_task.proofs.merging.add_all.Given as goal

abbrev pub invariant-bids : goal.invariant-bids
invariant-bids l = (ds us : List Listing) → AreOrderOf ds l.dests → AreOrderOf us l.units
    → l.errands.items ++ errands_over (work_of l.work) ds us (drop l.bid-index l.bids) ≡ l.fn.errands.items ++ errands_over (work_of l.work) ds us l.bids
