use Rattle.std.proofs.Common.{◌≡◌, ◌∙◌, ap, length, replicate, None}
use Rattle.std.proofs.lemmas.List.{with_items_is}
use Rattle.std.specs.Vec.{with_items}
use Rattle.volume_entry.specs.HeardMemory.{HeardMemory}
use Rattle.volume_entry.proofs.HeardSteps.{unlocked_remembers}
use Rattle.volume_entry.proofs.heard.Heard.unlock.Goals as goal

pub returns : goal.returns
returns c total m told =
    let ls = (with_items c.self.inside.listings c.forget_listings.new.listings).items in
    let listings : ls ≡ replicate (length c.args.self.now.listings) None =
    with_items_is c.self.inside.listings c.forget_listings.new.listings (c.forget_listings.auto.listings ∙ c.deref_mut.ensures.len)
    ∙ c.forget_listings.ensures ∙ ap (λ xs. replicate (length xs) None) (c.deref_mut.ensures.value ∙ ap (λ (h : HeardMemory). h.listings) c.self.view_is) in
    unlocked_remembers total c.args.self.now (record { listings = ls; moves = c.clear.new.self.items; marks = c.self.inside.marks }) m told
    listings c.clear.ensures.items (ap (λ (h : HeardMemory). h.marks) c.self.view_is)
