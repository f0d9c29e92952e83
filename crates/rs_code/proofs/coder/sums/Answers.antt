use Rattle.std.proofs.Common.{◌∙◌, ap}
use Rattle.std.specs.Prelude.{unwrap_or}
use Rattle.gf256.specs.Rows.{contents}
use Rattle.rs_code.proofs.Weights.{reach_of_held}
use Rattle.rs_code.proofs.coder.sums.Goals as goal

pub combine-requires-clause-reach : goal.combine-requires-clause-reach
combine-requires-clause-reach c k d lt =
    rw (c.unwrap_or.ensures ∙ ap (λ o. unwrap_or o 0) c.size.ensures.value)
    (reach_of_held c.args.shards.now c.args.places.now c.deref.result.now c.size.ensures.even c.requires.held (ap contents c.deref.ensures.value ∙ c.in_ok-sources.ensures) k d lt)
