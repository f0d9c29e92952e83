use Rattle.std.proofs.Common.{◌≡◌, ◌++◌, drop}
use Rattle.migrate_task.specs.Merging.{all_shown}
use Rattle.migrate_task.proofs.merging.all_shown.Given as goal

abbrev pub invariant-listings : goal.invariant-listings
invariant-listings l = l.bids.items ++ all_shown (drop l.listing-index l.listings) ≡ all_shown l.listings
