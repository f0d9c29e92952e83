use Rattle.std.proofs.Common.{◌≡◌}
use Rattle.rs_code.specs.Shape.{shape}
use Rattle.object_access.specs.Pieces.{pieces_of}
use Rattle.object_access.proofs.PutLemmas.{HasPut}
use Rattle.object_access.proofs.putting.put_object.Given as goal

abbrev pub invariant-blobs : goal.invariant-blobs
invariant-blobs g l = record {
  coder : shape l.coder ≡ shape l.fn.coder;
  gone : HasPut (g.P.Port.seen l.fn.port) (g.P.Port.seen l.port) l.first (pieces_of l.bytes) l.place;
}
