use Rattle.std.proofs.Common.{◌≡◌, ℕ, List, map, drop}
use Rattle.std.specs.List.{range_with_len}
use Rattle.std.specs.Vec.Iter.{into_iter_items}
use Rattle.rs_code.specs.Shards.{missing, missing_from, spread_at}
use Rattle.rs_code.proofs.interpolate.spread.Given as goal

abbrev pub invariant-loop-k : goal.invariant-loop-k
invariant-loop-k l = (row_of : ℕ → List ℕ) → map (λ output. output.items) l.fn.outputs.items ≡ map row_of (missing l.shards)
    → (l.rows.items ≡ map (spread_at l.shards row_of) (range_with_len 0 l.k)) × (map (λ output. output.items) (into_iter_items l.left) ≡ map row_of (missing_from l.k (drop l.k l.shards)))
