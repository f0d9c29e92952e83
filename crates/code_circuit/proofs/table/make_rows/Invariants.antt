use Rattle.std.proofs.Common.{◌≡◌, map}
use Rattle.std.specs.List.{range_with_len}
use Rattle.code_circuit.specs.Steps.{unit_row}
use Rattle.code_circuit.proofs.table.make_rows.Given as goal

abbrev pub invariant-loop-k : goal.invariant-loop-k
invariant-loop-k l = map (λ row. row.items) l.table.items ≡ map (unit_row l.sources) (range_with_len 0 l.k)
