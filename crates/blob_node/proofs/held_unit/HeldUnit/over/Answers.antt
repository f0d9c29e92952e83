-- A started chunk without records is that of a unit just made.
use Rattle.blob_node.proofs.Fresh.{fresh_held}
use Rattle.blob_node.proofs.held_unit.HeldUnit.over.Goals as goal

pub returns-clause-fresh : goal.returns-clause-fresh
returns-clause-fresh g c = λ fresh units place. fresh_held g.E.Extent.seen c.args.chunk fresh units place
