use Rattle.volume_entry.specs.HeardCounts.{unsettled_by, usable}
use Rattle.volume_entry.specs.TableParts.{shape_of}
use Rattle.volume_entry.specs.Unsettled.{blobs_of}
use Rattle.volume_entry.proofs.UnsettledBlobs.{Found}
use Rattle.volume_entry.proofs.heard.Heard.least_lacked.Given as goal

abbrev pub invariant-loop-index : goal.invariant-loop-index
invariant-loop-index l =
    Found (unsettled_by (shape_of l.shape) l.self l.homes l.broken l.transfers) (λ at. blobs_of (usable l.self.listings l.homes l.broken at)) l.index l.least
