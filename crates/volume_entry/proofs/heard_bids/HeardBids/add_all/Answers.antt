use Rattle.std.proofs.Common.{arith}
use Rattle.volume_entry.proofs.HeardSets.{adds_more, adds_all}
use Rattle.volume_entry.proofs.heard_bids.HeardBids.add_all.Goals as goal

pub loop-bid-preserved : goal.loop-bid-preserved
loop-bid-preserved c = record {
  added = adds_more c.args.bids.now c.loop-bid.bid-index c.args.self.now.bids c.loop-bid.self.bids c.add.new.self.bids c.loop-bid-test.true c.loop-bid.invariant.added c.add.ensures.added;
  room = omega (arith, c.add.ensures.room, c.loop-bid.invariant.room);
}

pub returns : goal.returns
returns c = adds_all c.args.bids.now c.loop-bid.bid-index c.args.self.now.bids c.loop-bid.self.bids c.loop-bid-test.false c.loop-bid.invariant.added
