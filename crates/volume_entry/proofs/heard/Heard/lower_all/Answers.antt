use Rattle.std.proofs.Common.{get_or, refl}
use Rattle.volume_entry.specs.HeardCounts.{unsettled_by}
use Rattle.volume_entry.specs.TableParts.{shape_of}
use Rattle.volume_entry.proofs.UnsettledBlobs.{lowers_none, lowers_more, lowers_all}
use Rattle.volume_entry.proofs.heard.Heard.lower_all.Goals as goal

pub loop-bid-init : goal.loop-bid-init
loop-bid-init c = lowers_none (unsettled_by (shape_of c.args.shape) c.args.self.now c.args.homes.now c.args.broken.now c.args.transfers.now) c.args.found

pub loop-bid-preserved : goal.loop-bid-preserved
loop-bid-preserved c =
    lowers_more (unsettled_by (shape_of c.args.shape) c.args.self.now c.args.homes.now c.args.broken.now c.args.transfers.now) c.args.bids.now c.loop-bid.bid-index
    (get_or c.args.bids.now c.loop-bid.bid-index 0) 0 c.args.found c.loop-bid.least c.lower-least.result c.loop-bid-test.true refl c.loop-bid.invariant c.lower-least.ensures

pub returns : goal.returns
returns c =
    lowers_all (unsettled_by (shape_of c.args.shape) c.args.self.now c.args.homes.now c.args.broken.now c.args.transfers.now) c.args.bids.now c.loop-bid.bid-index c.args.found c.loop-bid.least
    c.loop-bid-test.false c.loop-bid.invariant
