use Rattle.std.proofs.Common.{refl, arith}
use Rattle.gf256.proofs.Filled.{byte_none, byte_more, byte_all}
use Rattle.gf256.proofs.kernel.sum_at.Goals as goal

pub loop-j-init : goal.loop-j-init
loop-j-init c = byte_none c.args.row.now c.args.sources.now c.args.place

pub loop-j-preserved : goal.loop-j-preserved
loop-j-preserved c = byte_more c.args.row.now c.args.sources.now c.loop-j.j c.args.place _ _ c.loop-j.sum _ c.requires.row c.loop-j-test.true (omega arith) refl c.loop-j.invariant

pub returns : goal.returns
returns c = byte_all c.args.row.now c.args.sources.now c.loop-j.j c.args.place c.loop-j.sum c.requires.row c.loop-j-test.false c.loop-j.invariant
