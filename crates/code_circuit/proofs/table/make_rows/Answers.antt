use Rattle.std.proofs.Common.{ap, length, arith}
use Rattle.std.proofs.lemmas.List.{length-map}
use Rattle.std.proofs.lemmas.List.FromFn.{length-map-range_with_len}
use Rattle.code_circuit.specs.Steps.{unit_row}
use Rattle.code_circuit.proofs.Tables.{rows_more}
use Rattle.code_circuit.proofs.table.make_rows.Goals as goal

pub loop-k-preserved : goal.loop-k-preserved
loop-k-preserved c = rows_more (λ row. row.items) (unit_row c.args.sources) c.loop-k.table.items c.push.new.self.items c.in_ok-make_row.field-0 c.loop-k.k c.loop-k.invariant c.in_ok-push.ensures.items c.in_ok-make_row.ensures

pub returns-clause-long : goal.returns-clause-long
returns-clause-long c = omega (arith, length-map c.loop-k.table.items (λ row. row.items), ap length c.loop-k.invariant, length-map-range_with_len (unit_row c.args.sources) 0 c.loop-k.k)
