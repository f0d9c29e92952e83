use Rattle.std.proofs.Common.{rules, arith}
use Rattle.code_circuit.proofs.Filling.{piece_by_take}
use Rattle.code_circuit.proofs.load.load_source.Goals as goal

pub returns-clause-register : goal.returns-clause-register
returns-clause-register c = let piece = piece_by_take c.args.source.now c.args.from c.args.size c.requires in search (rules, piece)

pub returns-clause-bytes : goal.returns-clause-bytes
returns-clause-bytes c k = omega (arith, c.type_inv.source k)
