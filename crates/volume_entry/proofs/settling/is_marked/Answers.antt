use Rattle.std.proofs.Common.{◌∙◌, ap, sym}
use Rattle.unit_id.specs.Lists.{is_in}
use Rattle.volume_entry.specs.HeardMemory.{HeardMove, is_marked_there}
use Rattle.volume_entry.proofs.HeardMoves.{found_at}
use Rattle.volume_entry.proofs.settling.is_marked.Goals as goal

pub returns-in-Some : goal.returns-in-Some
returns-in-Some c =
    let found = rw c.in-Some.is at c.place_of.ensures in
    let d = c.index-moves-place.result in
    c.has.ensures ∙ ap (λ (m : HeardMove). is_in c.args.bid m.marked.bids) (c.item.view_is ∙ c.index-moves-place.is)
    ∙ ap (λ o. is_marked_there o c.args.bid) (sym (found_at c.args.moves.now c.in-Some.place c.args.index d found.within found.before (found.here d)))
