use Rattle.std.proofs.Common.{◌≡◌, ℕ, ◌<◌, [], length, get_or, map}
use Rattle.gf256.specs.Rows.{contents}
use Rattle.code_circuit.specs.Steps.{piece_of}
use Rattle.code_circuit.proofs.load.load.Given as goal

abbrev pub invariant-loop-k : goal.invariant-loop-k
invariant-loop-k l = record {
  long : length l.registers.items ≡ length l.initial.registers.items;
  done : (j : ℕ) → j < l.k → get_or (map (λ register. register.items) l.registers.items) j [] ≡ piece_of (get_or (contents l.sources) j []) l.from l.size;
  bytes : (j : ℕ) → j < l.k → (i : ℕ) → get_or (get_or (contents l.sources) j []) i 0 < 256;
}
