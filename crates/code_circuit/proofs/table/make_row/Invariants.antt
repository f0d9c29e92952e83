use Rattle.std.proofs.Common.{◌≡◌}
use Rattle.std.proofs.Common.{map, eqb, cond}
use Rattle.std.specs.List.{range_with_len}
use Rattle.code_circuit.proofs.table.make_row.Given as goal

abbrev pub invariant-loop-k : goal.invariant-loop-k
invariant-loop-k l = l.row.items ≡ map (λ j. cond (eqb j l.number) 1 0) (range_with_len 0 l.k)
