use Rattle.object_access.proofs.PieceLemmas.{pieces_are_the_object}
use Rattle.object_access.proofs.laws.pieces_are_the_object.Goals as goal

pub returns : goal.returns
returns c = pieces_are_the_object
