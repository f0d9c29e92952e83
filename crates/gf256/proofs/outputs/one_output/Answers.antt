use Rattle.std.proofs.Common.{length, arith}
use Rattle.gf256.proofs.Pieces.{whole}
use Rattle.gf256.proofs.outputs.one_output.Goals as goal

pub returns : goal.returns
returns c =
    whole c.args.p.now c.args.sources.now c.args.size (length c.loop-bytes.bytes.items) c.loop-bytes.bytes.items c.loop-bytes.invariant.p (omega arith)
