use Rattle.std.proofs.Common.{◌∙◌, ap}
use Rattle.unit_id.specs.Lists.{any}
use Rattle.volume_entry.specs.HeardCounts.{lacks}
use Rattle.volume_entry.specs.HeardMemory.{HeardMemory, is_fenced_there}
use Rattle.volume_entry.proofs.HeardTallies.{lacks_tells}
use Rattle.volume_entry.proofs.heard.Heard.has_unfenced.Goals as goal

pub returns : goal.returns
returns c total m told =
    let was = c.deref.ensures.value ∙ ap (λ (h : HeardMemory). h.moves) c.self.view_is in
    c.some_lacks_fence.ensures ∙ ap (λ ms. any (lacks is_fenced_there ms c.args.broken.now) c.args.transfers.now) was
    ∙ lacks_tells is_fenced_there c.args.self.now.moves m.heard.fenced c.args.broken.now c.args.transfers.now told.moves.fenced
