use Rattle.std.proofs.Common.{length}
use Rattle.volume_entry.proofs.first_homes.+are_fresh.Given as goal

abbrev pub decreases-are_fresh : goal.decreases-are_fresh
decreases-are_fresh l = length l.homes.now
