use Rattle.blob_node.proofs.LawProofs.{done_is_held}
use Rattle.blob_node.proofs.laws.done_is_held.Goals as goal

pub returns : goal.returns
returns c = done_is_held
