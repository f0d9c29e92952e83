use Rattle.std.proofs.Common.{◌≡◌, ℕ, ap, ◌∙◌, arith}
use Rattle.code_mode.specs.Mode.{total_count}
use Rattle.code_mode.specs.Stripe.{pieces}
use Rattle.code_mode.proofs.Cutting.{first_held, copied_piece, cut_free, cut_even, cut_more, cut_all, cut_holds}
use Rattle.code_mode.proofs.stripe.cut.Goals as goal

pub hold-requires-clause-free : goal.hold-requires-clause-free
hold-requires-clause-free c =
    cut_free c.args.mode c.args.blob.now c.loop-index.index c.loop-index.shards (omega arith) c.loop-index.invariant

pub hold-requires-clause-even : goal.hold-requires-clause-even
hold-requires-clause-even c =
    let mode = c.args.mode in
    let blob = c.args.blob.now in
    let k = c.loop-index.index in
    let piece = copied_piece mode blob k c.shard_size-size.result _ (omega arith) c.shard_size-size.ensures (c.from_vec.ensures ∙ c.in_ok-piece.ensures) in
    cut_even mode blob k c.loop-index.shards _ (omega arith) c.loop-index.invariant piece

pub loop-index-preserved : goal.loop-index-preserved
loop-index-preserved c =
    let mode = c.args.mode in
    let blob = c.args.blob.now in
    let k = c.loop-index.index in
    let piece = copied_piece mode blob k c.shard_size-size.result _ (omega arith) c.shard_size-size.ensures (c.from_vec.ensures ∙ c.in_ok-piece.ensures) in
    cut_more mode blob k c.loop-index.shards c.hold.new.shards _ (omega arith) c.loop-index.invariant piece c.in_ok-hold.ensures.ok

pub returns-clause-pieces : goal.returns-clause-pieces
returns-clause-pieces c =
    let whole = ap (λ (n : ℕ). first_held n (pieces c.args.mode c.args.blob.now) (total_count c.args.mode)) (let last : c.loop-index.index ≡ c.n-index-end.result = omega arith in last ∙ c.n-index-end.ensures.value) in
    cut_all c.args.mode c.args.blob.now c.loop-index.shards (c.loop-index.invariant ∙ whole)

pub returns-clause-held : goal.returns-clause-held
returns-clause-held c =
    cut_holds c.args.mode c.args.blob.now c.loop-index.shards (returns-clause-pieces c)
