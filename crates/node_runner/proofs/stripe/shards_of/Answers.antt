use Rattle.std.proofs.Common.{◌≡◌, ◌∙◌, ap, All, ◌<◌, arith}
use Rattle.code_mode.specs.Mode.{data_count}
use Rattle.code_mode.specs.Stripe.{data_shards, all_shards}
use Rattle.rs_code.specs.ShardValue.{filled}
use Rattle.node_runner.proofs.StripeLemmas.{are_bytes, stripe_of, blob_back}
use Rattle.node_runner.proofs.stripe.shards_of.Goals as goal

pub returns-clause-stripe : goal.returns-clause-stripe
returns-clause-stripe c =
    let law = c.any_shards_give_the_blob.ensures in
    let small : All (λ b. b < 256) c.args.blob.now = are_bytes c.args.blob.now (λ i. let fits = c.type_inv.blob i in omega arith) in
    let all : c.fill.new.shards ≡ all_shards c.args.mode c.args.blob.now =
    c.in_ok-fill.ensures.filled
    ∙ ap (λ s. filled s.data_shards c.in_ok-shards.shards) c.requires.coder
    ∙ ap (filled (data_count c.args.mode)) c.in_ok-shards.ensures.pieces
    ∙ law.filled c.args.mode c.args.blob.now (data_shards c.args.mode c.args.blob.now) small (law.cut c.args.mode c.args.blob.now small) in
    stripe_of law.each law.joined c.args.mode c.args.blob.now c.fill.new.shards small c.requires.size all

pub returns-clause-blob : goal.returns-clause-blob
returns-clause-blob c =
    let law = c.any_shards_give_the_blob.ensures in
    let small : All (λ b. b < 256) c.args.blob.now = are_bytes c.args.blob.now (λ i. let fits = c.type_inv.blob i in omega arith) in
    let all : c.fill.new.shards ≡ all_shards c.args.mode c.args.blob.now =
    c.in_ok-fill.ensures.filled
    ∙ ap (λ s. filled s.data_shards c.in_ok-shards.shards) c.requires.coder
    ∙ ap (filled (data_count c.args.mode)) c.in_ok-shards.ensures.pieces
    ∙ law.filled c.args.mode c.args.blob.now (data_shards c.args.mode c.args.blob.now) small (law.cut c.args.mode c.args.blob.now small) in
    blob_back law.each law.joined c.args.mode c.args.blob.now c.fill.new.shards small all
