-- What is still to be started leads from here to the end as all does from the start.
use Rattle.std.proofs.Common.{drop}
use Rattle.blob_node.proofs.Starts.{LeadsOn}
use Rattle.blob_node.proofs.starting.start_each.Given as goal

abbrev pub invariant-words : goal.invariant-words
invariant-words g l = LeadsOn g.E.Extent.seen l.words l.fn.units l.fn.settled.items (drop l.word-index l.words) l.units l.settled.items
