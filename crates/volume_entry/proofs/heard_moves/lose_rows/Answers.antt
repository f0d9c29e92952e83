use Rattle.std.proofs.Common.{refl, get_or}
use Rattle.volume_entry.proofs.HeardMoves.{lost_tell, none_lost_tell}
use Rattle.volume_entry.proofs.heard_moves.lose_rows.Goals as goal

pub returns-in-Some : goal.returns-in-Some
returns-in-Some c ts heard told =
    let found = rw c.in-Some.is at c.place_of.ensures in
    let d = c.index-moves-place.result in
    let was = get_or c.args.moves.now c.in-Some.place d in
    lost_tell ts c.args.moves.now c.in-Some.place c.args.index was c.lose_rows.new.self d heard found refl c.lose_rows.ensures.index told c.lose_rows.ensures

pub returns-in-None : goal.returns-in-None
returns-in-None c ts heard told =
    let none = rw c.in-None.is at c.place_of.ensures in
    none_lost_tell ts c.args.moves.now c.args.index heard none told
