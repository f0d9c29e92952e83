use Rattle.std.proofs.Common.{ap, refl, get_or}
use Rattle.unit_id.proofs.Bools.{contrary}
use Rattle.volume_entry.specs.HeardMemory.{HeardMove}
use Rattle.volume_entry.specs.HeardCalls.{moves_index}
use Rattle.volume_entry.proofs.HeardMoves.{released_tell, none_moves}
use Rattle.volume_entry.proofs.heard_moves.release.Goals as goal

pub returns-in-Some : goal.returns-in-Some
returns-in-Some c ts there heard told =
    let found = rw c.in-Some.is at c.place_of.ensures in
    let d = c.index-moves-place.result in
    let was = get_or c.args.moves.now c.in-Some.place d in
    released_tell ts c.args.moves.now c.in-Some.place c.args.index was c.release.new.self d heard found refl (ap (λ (m : HeardMove). m.index) c.release.ensures) told c.release.ensures

pub returns-in-None : goal.returns-in-None
returns-in-None c ts there heard told =
    let none = rw c.in-None.is at c.place_of.ensures in
    absurd (contrary (moves_index ts c.args.index) there (none_moves ts c.args.moves.now c.args.index heard told none))
