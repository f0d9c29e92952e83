use Rattle.std.proofs.Common.{◌≡◌, ℕ, ◌<◌, [], length, get_or, map}
use Rattle.gf256.specs.Rows.{contents}
use Rattle.code_circuit.proofs.table.has_rows.Given as goal

abbrev pub invariant-loop-k : goal.invariant-loop-k
invariant-loop-k l = record {
  long : length l.outputs ≡ length l.rows;
  same : (j : ℕ) → j < l.k → get_or (map (λ row. row.items) l.table) (get_or l.outputs j 0) [] ≡ get_or (contents l.rows) j [];
}
