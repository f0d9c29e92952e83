use Rattle.std.proofs.Common.{refl, get_or, subst}
use Rattle.std.proofs.lemmas.Result.{on_ok_weaker, on_err_weaker}
use Rattle.unit_id.proofs.Bools.{contrary}
use Rattle.volume_entry.specs.HeardMemory.{HasRowRoom}
use Rattle.volume_entry.specs.HeardCalls.{moves_index}
use Rattle.volume_entry.proofs.HeardMoves.{taken_tell, still_tell, none_moves}
use Rattle.volume_entry.proofs.Walks.{in_at}
use Rattle.volume_entry.proofs.heard_moves.take_rows.Goals as goal

pub returns-in-Some-clause-taken : goal.returns-in-Some-clause-taken
returns-in-Some-clause-taken c =
    let found = rw c.in-Some.is at c.place_of.ensures in
    let d = c.index-moves-place.result in
    let was = get_or c.args.moves.now c.in-Some.place d in
    on_ok_weaker c.take.result
    (λ takes ts there heard told. taken_tell ts c.args.moves.now c.in-Some.place c.args.index was c.take.new.self d heard found refl takes.index told c.args.live.now c.args.marked.now takes)
    c.take.ensures.taken

pub returns-in-Some-clause-same : goal.returns-in-Some-clause-same
returns-in-Some-clause-same c =
    let found = rw c.in-Some.is at c.place_of.ensures in
    let d = c.index-moves-place.result in
    let was = get_or c.args.moves.now c.in-Some.place d in
    on_err_weaker c.take.result
    (λ takes ts heard told. still_tell ts c.args.moves.now c.in-Some.place c.args.index was c.take.new.self d heard found refl takes.index told takes)
    c.take.ensures.same

pub returns-in-Some-clause-succeeds : goal.returns-in-Some-clause-succeeds
returns-in-Some-clause-succeeds c room =
    let found = rw c.in-Some.is at c.place_of.ensures in
    let d = c.index-moves-place.result in
    c.take.ensures.succeeds (subst HasRowRoom c.index-moves-place.is (room d (in_at c.args.moves.now c.in-Some.place d found.within c.index-moves-place.is)))

pub returns-in-None-clause-taken : goal.returns-in-None-clause-taken
returns-in-None-clause-taken c ts there heard told =
    let none = rw c.in-None.is at c.place_of.ensures in
    absurd (contrary (moves_index ts c.args.index) there (none_moves ts c.args.moves.now c.args.index heard told none))
