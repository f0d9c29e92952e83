use Rattle.std.proofs.Common.{◌≤◌, ◌+◌, take, length}
use Rattle.volume_entry.specs.HeardCalls.{Adds}
use Rattle.volume_entry.proofs.heard_bids.HeardBids.add_all.Given as goal

abbrev pub invariant-loop-bid : goal.invariant-loop-bid
invariant-loop-bid l = record { added : Adds (take l.bid-index l.bids) l.fn.self.bids l.self.bids; room : length l.bids ≤ l.self.spare + l.bid-index }
