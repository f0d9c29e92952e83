use Rattle.std.proofs.Common.{◌≡◌, ◌∙◌, ap, length, replicate, None}
use Rattle.std.proofs.lemmas.List.{with_items_is}
use Rattle.std.specs.Vec.{with_items}
use Rattle.volume_entry.specs.HeardMemory.{HeardMemory}
use Rattle.volume_entry.proofs.HeardSteps.{locked_remembers}
use Rattle.volume_entry.proofs.heard.Heard.lock.Goals as goal

pub returns : goal.returns
returns c grants fresh task number total m told =
    let ls = (with_items c.self.inside.listings c.forget_listings.new.listings).items in
    let listings : ls ≡ replicate (length c.args.self.now.listings) None =
    with_items_is c.self.inside.listings c.forget_listings.new.listings (c.forget_listings.auto.listings ∙ c.deref_mut.ensures.len)
    ∙ c.forget_listings.ensures ∙ ap (λ xs. replicate (length xs) None) (c.deref_mut.ensures.value ∙ ap (λ (h : HeardMemory). h.listings) c.self.view_is) in
    locked_remembers total c.args.self.now (record { listings = ls; moves = c.args.moves.items; marks = c.self.inside.marks }) grants task number m told
    listings fresh (ap (λ (h : HeardMemory). h.marks) c.self.view_is)
