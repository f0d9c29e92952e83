use Rattle.std.proofs.Common.{◌∙◌, arith}
use Rattle.std.proofs.lemmas.Result.{IfOk-weaker}
use Rattle.node_runner.specs.Stripes.{blob_in}
use Rattle.node_runner.proofs.StripeLemmas.{long_shards, next_even, below_more, below_all}
use Rattle.node_runner.proofs.stripe.blob_of.Goals as goal

pub hold-requires-clause-even : goal.hold-requires-clause-even
hold-requires-clause-even c =
    let mode = c.args.mode in
    let blob = blob_in mode c.args.size c.args.shards.now in
    next_even mode blob c.pieces.index c.pieces.found c.in_ok-piece.piece (long_shards mode blob) c.pieces.invariant.below c.in_ok-piece.ensures.shard

pub pieces-preserved : goal.pieces-preserved
pieces-preserved c =
    let mode = c.args.mode in
    let blob = blob_in mode c.args.size c.args.shards.now in
    record {
      below = below_more mode blob c.pieces.index c.pieces.found c.hold.new.shards c.in_ok-piece.piece c.pieces.invariant.below (omega arith) c.in_ok-piece.ensures.shard c.in_ok-hold.ensures.ok;
      coder = c.in_ok-piece.ensures.shape ∙ c.pieces.invariant.coder;
    }

pub returns-clause-blob : goal.returns-clause-blob
returns-clause-blob c =
    let all = below_all c.any_shards_give_the_blob.ensures.joined c.args.mode c.args.size c.pieces.index c.args.shards.now c.pieces.found c.requires.stripe c.pieces.invariant.below (omega arith) in
    IfOk-weaker c.join.result _ _ (λ bytes h. h ∙ all) c.join.ensures.bytes
