use Rattle.std.proofs.Common.{◌≡◌, []}
use Rattle.rs_code.specs.RowCache.{AllFit}
use Rattle.rs_code.specs.Shape.{AreWeights}
use Rattle.rs_code.specs.ShardValue.{weights}
use Rattle.rs_code.proofs.Missing.{made_so_far}
use Rattle.rs_code.proofs.interpolate.missing_weights.Given as goal

abbrev pub invariant-loop-k : goal.invariant-loop-k
invariant-loop-k l = record {
  rows : made_so_far (weights l.places) l.shards l.rows.items l.k ≡ made_so_far (weights l.places) l.shards [] 0;
  fit : AllFit AreWeights l.kept.entries;
}
