use Rattle.std.proofs.Common.{take}
use Rattle.migrate_task.specs.Merging.{AreOrderOf}
use Rattle.migrate_task.proofs.ordered.order_all.Given as goal

abbrev pub invariant-listings : goal.invariant-listings
invariant-listings l = AreOrderOf (take l.listing-index l.listings) l.orders.items
