use Rattle.std.proofs.Common.{◌≡◌, ◌-◌, ℕ, ◌++◌, min, length, take, sym, ap, ◌∙◌, arith}
use Rattle.code_mode.specs.Stripe.{joined}
use Rattle.code_mode.proofs.Joins.{join_more, data_reach}
use Rattle.code_mode.proofs.stripe.join.Goals as goal

pub loop-index-preserved : goal.loop-index-preserved
loop-index-preserved c =
    let bytes = c.loop-index.bytes in
    let part : c.min.result ≡ min (c.args.size - length bytes.items) (length c.in-Some.piece.now) =
    c.min.ensures ∙ ap (λ (n : ℕ). min (c.args.size - n) (length c.in-Some.piece.now)) (c.len.ensures ∙ bytes.ok.0) in
    let added = c.in_ok-extend_from_slice.ensures.items ∙ ap (λ (n : ℕ). bytes.items ++ take n c.in-Some.piece.now) part in
    join_more c.args.size c.loop-index.index c.args.shards.now bytes.items _ c.in-Some.piece.now (sym c.in-Some.ensures.value) c.loop-index.invariant added

pub returns-clause-length : goal.returns-clause-length
returns-clause-length c =
    let last : c.loop-index.index ≡ c.n-index-end.result = omega arith in
    let all = last ∙ c.n-index-end.ensures.value in
    ap length (c.from_vec.ensures ∙ c.loop-index.invariant ∙ ap (λ (n : ℕ). take c.args.size (joined n c.args.shards.now)) all)
    ∙ data_reach c.args.mode c.args.size c.args.shards.now c.requires.held
