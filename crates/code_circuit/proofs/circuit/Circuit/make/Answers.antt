use Rattle.code_circuit.proofs.Tables.{even_unit_rows}
use Rattle.code_circuit.specs.Steps.{AreEven}
use Rattle.std.proofs.Common.{sym, subst}
use Rattle.code_circuit.proofs.circuit.Circuit.make.Goals as goal

pub play-requires-clause-even : goal.play-requires-clause-even
play-requires-clause-even c = subst AreEven (sym c.in_ok-table.ensures.rows) (even_unit_rows c.args.sources c.args.registers)
