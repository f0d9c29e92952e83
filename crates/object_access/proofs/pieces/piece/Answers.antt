use Rattle.object_access.proofs.PieceLemmas.{cut_out}
use Rattle.object_access.proofs.pieces.piece.Goals as goal

pub returns : goal.returns
returns c = cut_out c.args.bytes.now c.args.place c.min.result c.requires c.min.ensures
