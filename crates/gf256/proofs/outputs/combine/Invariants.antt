use Rattle.std.proofs.Common.{◌≡◌, ◌-◌, ◌≤◌, length, map, take}
use Rattle.gf256.specs.Sums.{sums_of}
use Rattle.gf256.specs.Rows.{contents}
use Rattle.gf256.proofs.outputs.combine.Given as goal

abbrev pub invariant-loop-k : goal.invariant-loop-k
invariant-loop-k l = record {
  within : l.k ≤ length l.rows;
  made : map (λ output. output.items) l.outputs.items ≡ map (λ row. sums_of row (contents l.sources) l.size) (take l.k l.rows);
}

abbrev pub decreases-loop-k : goal.decreases-loop-k
decreases-loop-k l = length l.rows - l.k

abbrev pub invariant-loop-j : goal.invariant-loop-j
invariant-loop-j l = map (λ output. output.items) l.outputs.items ≡ map (λ row. sums_of row (contents l.sources) l.size) (take l.j l.rows)
