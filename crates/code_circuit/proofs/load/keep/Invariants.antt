use Rattle.std.proofs.Common.{◌≡◌, ℕ, ◌<◌, ◌≤◌, [], ◌++◌, length, get_or, map}
use Rattle.code_circuit.specs.Steps.{picked}
use Rattle.code_circuit.proofs.load.keep.Given as goal

abbrev pub invariant-loop-k : goal.invariant-loop-k
invariant-loop-k l = record {
  long : length l.outputs.items ≡ length l.initial.outputs.items;
  done : (j : ℕ) → j < l.k → get_or (map (λ output. output.items) l.outputs.items) j [] ≡
      get_or (map (λ output. output.items) l.initial.outputs.items) j [] ++ get_or (picked l.places (map (λ register. register.items) l.registers)) j [];
  left : (j : ℕ) → l.k ≤ j → get_or (map (λ output. output.items) l.outputs.items) j [] ≡ get_or (map (λ output. output.items) l.initial.outputs.items) j [];
}
