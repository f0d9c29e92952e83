use Rattle.std.proofs.Common.{◌≡◌, ◌∙◌, ap}
use Rattle.volume_entry.specs.HeardMemory.{HeardMove}
use Rattle.volume_entry.proofs.HeardMoves.{none_more}
use Rattle.volume_entry.proofs.heard_moves.place_of.Goals as goal

pub loop-place-preserved : goal.loop-place-preserved
loop-place-preserved c =
    let item = c.index-moves-place.result in
    let other : item.index ≡ c.args.index → ⊥ = λ e. c.if-item-index.false (ap (λ (m : HeardMove). m.index) c.item.view_is ∙ e) in
    none_more c.args.moves.now c.loop-place.place item c.args.index c.loop-place-test.true c.index-moves-place.is c.loop-place.invariant other
