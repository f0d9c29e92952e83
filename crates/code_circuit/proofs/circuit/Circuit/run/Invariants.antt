use Rattle.std.proofs.Common.{◌≡◌, ◌-◌, ◌≤◌, length, map}
use Rattle.gf256.specs.Rows.{contents}
use Rattle.gf256.specs.Sums.{sums_of}
use Rattle.code_circuit.specs.Steps.{after_steps, picked, unit_rows}
use Rattle.code_circuit.proofs.circuit.Circuit.run.Given as goal

abbrev pub invariant-loop-from : goal.invariant-loop-from
invariant-loop-from l = record {
  within : l.from ≤ l.size;
  count : length l.registers.items ≡ l.self-inside.registers;
  outputs_count : length l.outputs.items ≡ length l.self-inside.outputs.items;
  kept : map (λ output. output.items) l.outputs.items ≡
      map (λ row. sums_of row (contents l.sources) l.from) (picked l.self-inside.outputs.items (after_steps (unit_rows (length (contents l.sources)) l.self-inside.registers) l.self-inside.steps.items));
}

abbrev pub decreases-loop-from : goal.decreases-loop-from
decreases-loop-from l = l.size - l.from
