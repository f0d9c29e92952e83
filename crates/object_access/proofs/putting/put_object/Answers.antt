use Rattle.std.proofs.Common.{◌≡◌, ◌+◌, ◌<◌, ◌≤◌, length, ◌∙◌, ap, rules, arith}
use Rattle.object_access.specs.Pieces.{blob_count, pieces_of}
use Rattle.object_access.proofs.PieceLemmas.{length-pieces_of, piece_legal, within}
use Rattle.object_access.proofs.PutLemmas.{put_next, put_stops, put_all}
use Rattle.object_access.proofs.putting.put_object.Goals as goal

pub put_piece-requires-clause-size : goal.put_piece-requires-clause-size
put_piece-requires-clause-size g c =
    let below : c.blobs.place < blob_count (length c.args.bytes.now) = omega (arith, c.blob_count-count.ensures, c.blobs-test.true) in
    piece_legal c.args.bytes.now c.piece.result.now c.blobs.place below c.piece.ensures

pub returns-in_err-put_piece-clause-puts : goal.returns-in_err-put_piece-clause-puts
returns-in_err-put_piece-clause-puts g c =
    let below : c.blobs.place < blob_count (length c.args.bytes.now) = omega (arith, c.blob_count-count.ensures, c.blobs-test.true) in
    let from : c.from.result ≡ c.blobs.place = search rules in
    put_stops _ _ _ c.args.first c.args.bytes.now c.blobs.place (c.args.first + c.from.result) c.piece.result.now c.in_err-put_piece.field-0.0 c.from_residual.result
    (within c.args.bytes.now c.blobs.place below) c.piece.ensures (ap (λ n. c.args.first + n) from) (search rules) c.blobs.invariant.gone c.in_err-put_piece.ensures.puts

pub blobs-preserved : goal.blobs-preserved
blobs-preserved g c =
    let below : c.blobs.place < blob_count (length c.args.bytes.now) = omega (arith, c.blob_count-count.ensures, c.blobs-test.true) in
    let from : c.from.result ≡ c.blobs.place = search rules in
    record {
      coder = c.in_ok-put_piece.ensures.shape ∙ c.blobs.invariant.coder;
      gone = put_next _ _ _ c.args.first (pieces_of c.args.bytes.now) c.blobs.place (c.args.first + c.from.result) c.piece.result.now c.in_ok-put_piece.field-0
          (within c.args.bytes.now c.blobs.place below) c.piece.ensures (ap (λ n. c.args.first + n) from) c.blobs.invariant.gone c.in_ok-put_piece.ensures.puts;
    }

pub returns-clause-puts : goal.returns-clause-puts
returns-clause-puts g c =
    let count = length-pieces_of c.args.bytes.now in
    let over : length (pieces_of c.args.bytes.now) ≤ c.blobs.place = omega (arith, count, c.blob_count-count.ensures, c.blobs-test.false) in
    put_all _ _ c.args.first c.args.bytes.now c.blobs.place over c.blobs.invariant.gone
