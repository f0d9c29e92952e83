use Rattle.std.proofs.Common.{◌≡◌, List, ◌++◌, drop}
use Rattle.migrate_task.specs.declared.listing.Listing.{Listing}
use Rattle.migrate_task.specs.Work.{errands_of}
use Rattle.migrate_task.specs.Merging.{AreOrderOf}
use Rattle.migrate_task.proofs.merging.add_each.Given as goal

abbrev pub invariant-journeys : goal.invariant-journeys
invariant-journeys l = (listings : List Listing) → AreOrderOf listings l.dests
    → l.errands.items ++ errands_of l.bid l.due listings (drop l.journey-index l.journeys) ≡ l.fn.errands.items ++ errands_of l.bid l.due listings l.journeys
