use Rattle.blob_node.proofs.LawProofs.{marks_stay}
use Rattle.blob_node.proofs.laws.marks_stay.Goals as goal

pub returns : goal.returns
returns c = marks_stay
