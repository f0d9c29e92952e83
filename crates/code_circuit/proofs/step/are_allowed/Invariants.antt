use Rattle.std.proofs.Common.{ℕ, ◌<◌, get_or}
use Rattle.code_circuit.specs.declared.step.Step.{Step}
use Rattle.code_circuit.specs.Steps.{IsAllowed}
use Rattle.code_circuit.proofs.step.are_allowed.Given as goal

abbrev pub invariant-loop-step : goal.invariant-loop-step
invariant-loop-step l = (k : ℕ) (d : Step) → k < l.step-index → IsAllowed l.registers (get_or l.steps k d)
