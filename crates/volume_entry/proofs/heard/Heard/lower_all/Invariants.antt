use Rattle.std.proofs.Common.{take}
use Rattle.volume_entry.specs.HeardCounts.{unsettled_by}
use Rattle.volume_entry.specs.TableParts.{shape_of}
use Rattle.volume_entry.specs.Unsettled.{Lowers}
use Rattle.volume_entry.proofs.heard.Heard.lower_all.Given as goal

abbrev pub invariant-loop-bid : goal.invariant-loop-bid
invariant-loop-bid l = Lowers (unsettled_by (shape_of l.shape) l.self l.homes l.broken l.transfers) (take l.bid-index l.bids) l.fn.found l.least
