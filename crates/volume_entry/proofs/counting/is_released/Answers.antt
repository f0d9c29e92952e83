use Rattle.std.proofs.Common.{◌∙◌, ap, sym}
use Rattle.volume_entry.specs.HeardMemory.{HeardMove, is_released_there}
use Rattle.volume_entry.proofs.HeardMoves.{found_at}
use Rattle.volume_entry.proofs.counting.is_released.Goals as goal

pub returns-in-Some : goal.returns-in-Some
returns-in-Some c =
    let found = rw c.in-Some.is at c.place_of.ensures in
    let d = c.index-moves-place.result in
    ap (λ (m : HeardMove). m.is_released) (c.item.view_is ∙ c.index-moves-place.is)
    ∙ ap is_released_there (sym (found_at c.args.moves.now c.in-Some.place c.args.index d found.within found.before (found.here d)))
