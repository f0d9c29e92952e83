use Rattle.std.proofs.Common.{rules}
use Rattle.code_circuit.proofs.Filling.{piece_of_none}
use Rattle.code_circuit.proofs.load.load_zeros.Goals as goal

pub returns : goal.returns
returns c = let zeros = piece_of_none c.args.from c.args.size in search (rules, zeros)
