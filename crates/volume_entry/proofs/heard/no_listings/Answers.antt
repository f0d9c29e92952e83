use Rattle.std.proofs.Common.{◌∙◌, ap, ◌++◌, ◌∷◌, [], None}
use Rattle.std.proofs.lemmas.List.{replicate_more}
use Rattle.volume_entry.proofs.heard.no_listings.Goals as goal

pub loop-index-preserved : goal.loop-index-preserved
loop-index-preserved c = c.in_ok-push.ensures.items ∙ ap (λ ls. ls ++ None ∷ []) c.loop-index.invariant ∙ replicate_more c.loop-index._index None
