use Rattle.std.proofs.Common.{eqb, cond, ◌∙◌}
use Rattle.code_circuit.proofs.Tables.{row_more, bit_of}
use Rattle.code_circuit.proofs.table.make_row.Goals as goal

pub loop-k-preserved : goal.loop-k-preserved
loop-k-preserved c = row_more (λ j. cond (eqb j c.args.number) 1 0) c.loop-k.row.items c.push.new.self.items c.from.result c.loop-k.k c.loop-k.invariant c.in_ok-push.ensures.items (c.from.ensures ∙ bit_of (eqb c.loop-k.k c.args.number))
