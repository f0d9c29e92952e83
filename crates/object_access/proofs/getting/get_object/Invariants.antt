use Rattle.std.proofs.Common.{◌≡◌}
use Rattle.rs_code.specs.Shape.{shape}
use Rattle.object_access.specs.Pieces.{blob_sizes}
use Rattle.object_access.proofs.GetLemmas.{HasGot}
use Rattle.object_access.proofs.getting.get_object.Given as goal

abbrev pub invariant-blobs : goal.invariant-blobs
invariant-blobs g l = record {
  coder : shape l.coder ≡ shape l.fn.coder;
  gone : HasGot (g.P.Port.seen l.fn.port) (g.P.Port.seen l.port) l.first (blob_sizes l.size) l.place l.object.items;
}
