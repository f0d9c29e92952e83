use Rattle.gf256.proofs.Sums.{block_bytes}
use Rattle.gf256.proofs.lanes.block_at.Goals as goal

pub returns : goal.returns
returns c = block_bytes c.args.source.now c.args.at c.type_inv.source c.requires
