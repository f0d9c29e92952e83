use Rattle.std.proofs.Common.{◌≡◌, All, length}
use Rattle.code_tests.proofs.field.rows_of.Given as goal

abbrev pub invariant-loop-k : goal.invariant-loop-k
invariant-loop-k l = All (λ row. length row ≡ 3) l.rows.items
