use Rattle.std.proofs.Common.{◌∙◌, ap, All, ◌<◌, arith}
use Rattle.code_mode.specs.Mode.{data_count}
use Rattle.code_mode.specs.Stripe.{data_shards}
use Rattle.rs_code.specs.ShardValue.{filled}
use Rattle.blob_access.proofs.Bytes.{are_bytes}
use Rattle.blob_access.proofs.stripe.shards_of.Goals as goal

pub returns-clause-all : goal.returns-clause-all
returns-clause-all c =
    let law = c.any_shards_give_the_blob.ensures in
    let small : All (λ b. b < 256) c.args.blob.now = are_bytes c.args.blob.now (λ i. let fits = c.type_inv.blob i in omega arith) in
    c.in_ok-fill.ensures.filled
    ∙ ap (λ s. filled s.data_shards c.in_ok-shards.shards) c.requires.coder
    ∙ ap (filled (data_count c.args.mode)) c.in_ok-shards.ensures.pieces
    ∙ law.filled c.args.mode c.args.blob.now (data_shards c.args.mode c.args.blob.now) small (law.cut c.args.mode c.args.blob.now small)

pub returns-clause-bytes : goal.returns-clause-bytes
returns-clause-bytes c = are_bytes c.args.blob.now (λ i. let fits = c.type_inv.blob i in omega arith)
