-- Some files are back.
use Rattle.std.proofs.Common.{length}
use Rattle.blob_node.proofs.HandingBack.{InHand}
use Rattle.blob_node.proofs.hand_back.hand_back.Given as goal

abbrev pub invariant-loop-word : goal.invariant-loop-word
invariant-loop-word g l = InHand g.H.Shelf.seen g.H.File.Extent.seen l.initial.shelf l.initial.units.entries l.shelf l.units.entries

abbrev pub decreases-loop-word : goal.decreases-loop-word
decreases-loop-word g l = length l.units.entries
