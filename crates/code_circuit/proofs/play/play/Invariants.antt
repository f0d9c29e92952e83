use Rattle.std.proofs.Common.{◌≡◌, length, map}
use Rattle.code_circuit.proofs.Moves.{IsPlayedTo}
use Rattle.code_circuit.proofs.play.play.Given as goal

abbrev pub invariant-loop-step : goal.invariant-loop-step
invariant-loop-step l = record {
  count : length l.registers.items ≡ length l.initial.registers.items;
  played : IsPlayedTo (map (λ register. register.items) l.initial.registers.items) (map (λ register. register.items) l.registers.items) l.steps l.step-index;
}
