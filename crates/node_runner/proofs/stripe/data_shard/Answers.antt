use Rattle.std.proofs.Common.{arith}
use Rattle.rs_code.specs.Shape.{shape}
use Rattle.node_runner.specs.Stripes.{blob_in}
use Rattle.node_runner.proofs.StripeLemmas.{stripe_enough, coder_can}
use Rattle.node_runner.proofs.stripe.data_shard.Goals as goal

pub rebuild-requires-clause-total : goal.rebuild-requires-clause-total
rebuild-requires-clause-total c =
    let blob = blob_in c.args.mode c.args.size c.args.shards.now in
    let enough = stripe_enough c.any_shards_give_the_blob.ensures.each c.args.mode c.args.size c.args.shards.now c.requires.stripe in
    (coder_can c.args.mode blob c.args.shards.now (shape c.args.coder.now) enough c.requires.coder).0

pub rebuild-requires-clause-within : goal.rebuild-requires-clause-within
rebuild-requires-clause-within c =
    let enough = stripe_enough c.any_shards_give_the_blob.ensures.each c.args.mode c.args.size c.args.shards.now c.requires.stripe in
    omega (arith, enough.total, c.requires.within)

pub rebuild-requires-clause-enough : goal.rebuild-requires-clause-enough
rebuild-requires-clause-enough c =
    let blob = blob_in c.args.mode c.args.size c.args.shards.now in
    let enough = stripe_enough c.any_shards_give_the_blob.ensures.each c.args.mode c.args.size c.args.shards.now c.requires.stripe in
    (coder_can c.args.mode blob c.args.shards.now (shape c.args.coder.now) enough c.requires.coder).1
