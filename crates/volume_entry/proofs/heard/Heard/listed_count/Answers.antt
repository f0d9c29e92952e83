use Rattle.std.proofs.Common.{◌∙◌, ap}
use Rattle.unit_id.specs.Lists.{count_below}
use Rattle.volume_entry.specs.HeardCounts.{usable}
use Rattle.volume_entry.specs.HeardMemory.{HeardMemory}
use Rattle.volume_entry.proofs.HeardTallies.{listed_tells}
use Rattle.std.specs.Prelude.{is_some}
use Rattle.volume_entry.proofs.heard.Heard.listed_count.Goals as goal

pub returns : goal.returns
returns c m homes swapped told =
    let was = c.deref.ensures.value ∙ ap (λ (h : HeardMemory). h.listings) c.self.view_is in
    c.usable_count.ensures ∙ ap (λ ls. count_below c.args.total (λ i. is_some (usable ls c.args.homes.now c.args.broken.now i))) was
    ∙ listed_tells c.args.total m c.args.self.now.listings c.args.homes.now c.args.broken.now homes swapped told.listings
