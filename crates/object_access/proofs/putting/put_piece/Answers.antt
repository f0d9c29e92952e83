use Rattle.std.proofs.Common.{◌≤◌, length, sym, subst, rules}
use Rattle.code_mode.specs.declared.payload.Payload.{Payload}
use Rattle.code_mode.specs.declared.stripe.TheConstants.{BLOB_LIMIT}
use Rattle.code_mode.specs.Payload.{payload_bytes}
use Rattle.object_access.proofs.PutLemmas.{piece_out_of_memory, piece_refused}
use Rattle.object_access.proofs.putting.put_piece.Goals as goal

pub returns-in_err-payload-clause-puts : goal.returns-in_err-payload-clause-puts
returns-in_err-payload-clause-puts g c = piece_out_of_memory _ c.args.number c.args.piece.now c.from_residual.result (search rules)

pub put-requires-clause-size : goal.put-requires-clause-size
put-requires-clause-size g c =
    subst (λ (p : Payload). (1 ≤ length (payload_bytes p)) × (length (payload_bytes p) ≤ BLOB_LIMIT)) (sym c.in_ok-payload.ensures) c.requires.size

pub returns-in_err-put-clause-puts : goal.returns-in_err-put-clause-puts
returns-in_err-put-clause-puts g c =
    piece_refused _ _ c.args.number c.args.piece.now c.in_ok-payload.payload c.from_residual-in_err-put.result c.in_err-put.field-0.0 c.in_ok-payload.ensures (search rules) c.in_err-put.ensures.puts
