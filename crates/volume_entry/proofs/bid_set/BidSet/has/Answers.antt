use Rattle.std.proofs.Common.{◌∙◌, ap}
use Rattle.unit_id.specs.Lists.{is_in}
use Rattle.volume_entry.specs.KeptTable.{KeptBids}
use Rattle.volume_entry.proofs.Bids.{is_in-reverse}
use Rattle.volume_entry.proofs.bid_set.BidSet.has.Goals as goal

pub returns : goal.returns
returns c = c.contains.ensures ∙ is_in-reverse c.args.bid c.self.inside.kept.keys ∙ ap (λ (s : KeptBids). is_in c.args.bid s.bids) c.self.view_is
