use Rattle.std.proofs.Common.{◌≡◌, ◌∙◌, ap, sym, subst}
use Rattle.std.proofs.lemmas.List.{with_items_is}
use Rattle.std.specs.Vec.{with_items}
use Rattle.volume_entry.specs.Manager.{without_rows}
use Rattle.volume_entry.specs.HeardMemory.{HeardMemory, MovesTell}
use Rattle.volume_entry.proofs.HeardSteps.{retargeted_remembers}
use Rattle.volume_entry.proofs.heard.Heard.retarget.Goals as goal

pub returns : goal.returns
returns c grant same total m told =
    let ms = (with_items c.self.inside.moves c.lose_rows.new.moves).items in
    let moves : ms ≡ c.lose_rows.new.moves = with_items_is c.self.inside.moves c.lose_rows.new.moves (c.lose_rows.auto.moves ∙ c.deref_mut.ensures.len) in
    let was : c.deref_mut.result.now ≡ c.args.self.now.moves = c.deref_mut.ensures.value ∙ ap (λ (h : HeardMemory). h.moves) c.self.view_is in
    retargeted_remembers total c.args.self.now (record { listings = c.self.inside.listings.items; moves = ms; marks = c.self.inside.marks }) grant m told
    (ap (λ (h : HeardMemory). h.listings) c.self.view_is) (ap (λ (h : HeardMemory). h.marks) c.self.view_is)
    (λ ts heard tells. subst (λ xs. MovesTell ts xs (record heard { live = without_rows grant.index heard.live; marked = without_rows grant.index heard.marked })) (sym moves)
    (rw same (c.lose_rows.ensures ts heard (subst (λ xs. MovesTell ts xs heard) (sym was) tells))))
