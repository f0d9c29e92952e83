use Rattle.std.proofs.Common.{◌+◌, ◌++◌, [], ◌∷◌, None, length, ◌∙◌, ap, arith}
use Rattle.std.proofs.lemmas.List.{length_push}
use Rattle.rs_code.proofs.Places.{replicate-more}
use Rattle.rs_code.proofs.shards.grow.Goals as goal

pub loop-preserved : goal.loop-preserved
loop-preserved c = record {
  grown = c.in_ok-push.ensures.items
      ∙ ap (λ rows. rows ++ None ∷ []) c.loop.invariant.grown
      ∙ replicate-more c.args.rows.now.items c.loop.counter (length c.args.rows.now.items) c.loop.invariant.no_less;
  long = ap length c.in_ok-push.ensures.items ∙ length_push c.loop.rows.items None ∙ ap (λ n. n + 1) c.loop.invariant.long;
  no_less = omega arith;
  no_more = omega arith;
}
