use Rattle.std.proofs.Common.{◌≡◌}
use Rattle.rs_code.specs.Shape.{shape}
use Rattle.node_runner.specs.Stripes.{shape_of, blob_in, HoldsBelow}
use Rattle.node_runner.proofs.stripe.blob_of.Given as goal

abbrev pub invariant-pieces : goal.invariant-pieces
invariant-pieces l = record {
  below : HoldsBelow l.mode (blob_in l.mode l.fn.size l.shards) l.index l.found;
  coder : shape l.coder ≡ shape_of l.mode;
}
