use Rattle.std.proofs.Common.{arith}
use Rattle.gf256.proofs.Rows.{made_more, made_all}
use Rattle.gf256.proofs.row.FactorRow.make.Goals as goal

pub loop-k-preserved : goal.loop-k-preserved
loop-k-preserved c =
    let more = made_more c.args.factors.now c.loop-k.k c.loop-k.halves.items c.push.new.self.items c.halves_of.result (omega arith) c.in_ok-push.ensures.items
    c.loop-k.invariant.seen c.loop-k.invariant.are c.halves_of.ensures.products c.halves_of.ensures.factor in
    record { seen = more.0; are = more.1 }

pub invariant_of-result : goal.invariant_of-result
invariant_of-result c = (made_all c.args.factors.now c.loop-k.k c.loop-k.halves.items c.loop-k-test.false c.loop-k.invariant.seen c.loop-k.invariant.are).1

pub returns : goal.returns
returns c = (made_all c.args.factors.now c.loop-k.k c.loop-k.halves.items c.loop-k-test.false c.loop-k.invariant.seen c.loop-k.invariant.are).0
