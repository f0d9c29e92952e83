use Rattle.std.proofs.Common.{ℕ, ◌<◌, get_or}
use Rattle.code_circuit.proofs.step.are_inside.Given as goal

abbrev pub invariant-loop-output : goal.invariant-loop-output
invariant-loop-output l = (k d : ℕ) → k < l.output-index → get_or l.outputs k d < l.registers
