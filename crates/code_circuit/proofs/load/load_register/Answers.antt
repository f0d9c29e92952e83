use Rattle.std.proofs.Common.{arith}
use Rattle.code_circuit.proofs.Filling.{bytes_behind}
use Rattle.code_circuit.proofs.load.load_register.Goals as goal

pub returns-clause-bytes : goal.returns-clause-bytes
returns-clause-bytes c = bytes_behind c.args.sources.now c.args.number (omega arith)
