use Rattle.blob_node.proofs.LawProofs.{fenced_units_take_no_writes}
use Rattle.blob_node.proofs.laws.fenced_units_take_no_writes.Goals as goal

pub returns : goal.returns
returns c = fenced_units_take_no_writes
