use Rattle.std.proofs.Common.{length, arith}
use Rattle.gf256.proofs.Pieces.{whole}
use Rattle.gf256.proofs.outputs.three_outputs.Goals as goal

pub returns-clause-p : goal.returns-clause-p
returns-clause-p c =
    whole c.args.p.now c.args.sources.now c.args.size (length c.loop-outputs.outputs.p.items) c.loop-outputs.outputs.p.items c.loop-outputs.invariant.p (omega arith)

pub returns-clause-q : goal.returns-clause-q
returns-clause-q c =
    whole c.args.q.now c.args.sources.now c.args.size (length c.loop-outputs.outputs.p.items) c.loop-outputs.outputs.q.items c.loop-outputs.invariant.q (omega arith)

pub returns-clause-r : goal.returns-clause-r
returns-clause-r c =
    whole c.args.r.now c.args.sources.now c.args.size (length c.loop-outputs.outputs.p.items) c.loop-outputs.outputs.r.items c.loop-outputs.invariant.r (omega arith)
