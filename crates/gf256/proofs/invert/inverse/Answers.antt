use Rattle.std.proofs.Common.{arith}
use Rattle.gf256.proofs.Inverses.{table_is_inverse, table_gives_one}
use Rattle.gf256.proofs.invert.inverse.Goals as goal

pub returns-else-a-eq0-clause-one : goal.returns-else-a-eq0-clause-one
returns-else-a-eq0-clause-one c = table_gives_one c.args.a _ (omega arith) (omega arith)

pub returns-else-a-eq0-clause-value : goal.returns-else-a-eq0-clause-value
returns-else-a-eq0-clause-value c = table_is_inverse c.args.a _ (omega arith) (omega arith)
