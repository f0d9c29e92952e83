use Rattle.std.proofs.Common.{◌≡◌, ◌++◌, filter, drop}
use Rattle.migrate_task.specs.Merging.{is_number}
use Rattle.migrate_task.proofs.merging.add_numbers.Given as goal

abbrev pub invariant-more : goal.invariant-more
invariant-more l = l.bids.items ++ filter is_number (drop l.bid-index l.more) ≡ l.fn.bids.items ++ filter is_number l.more
