use Rattle.std.proofs.Common.{ap}
use Rattle.volume_entry.specs.KeptTable.{KeptBids}
use Rattle.volume_entry.proofs.Bids.{added_is}
use Rattle.volume_entry.proofs.bid_set.BidSet.add.Goals as goal

pub returns-clause-added : goal.returns-clause-added
returns-clause-added c =
    added_is c.args.bid c.self.inside.kept.keys c.insert.new.self.keys c.args.self.now.bids c.in_ok-insert.ensures.keys (ap (λ (s : KeptBids). s.bids) c.self.view_is) c.requires
