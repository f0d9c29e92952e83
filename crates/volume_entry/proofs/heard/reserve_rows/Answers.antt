use Rattle.std.proofs.Common.{◌<◌, length, arith}
use Rattle.volume_entry.proofs.HeardSteps.{still_start, still_set, room_more, room_all}
use Rattle.volume_entry.proofs.heard.reserve_rows.Goals as goal

pub loop-place-init : goal.loop-place-init
loop-place-init c = record { same = still_start c.args.moves.now; room = λ k d h. absurd (omega arith) }

pub returns-in_err-reserve-clause-same : goal.returns-in_err-reserve-clause-same
returns-in_err-reserve-clause-same c =
    let within : c.loop-place.place < length c.loop-place.moves = omega (arith, c.loop-place-test.true, c.loop-place.auto.moves) in
    still_set c.args.moves.now c.loop-place.moves c.loop-place.place c.index-moves-place.result c.reserve.new.self within c.loop-place.invariant.same c.reserve.ensures.same

pub loop-place-preserved : goal.loop-place-preserved
loop-place-preserved c =
    let within : c.loop-place.place < length c.loop-place.moves = omega (arith, c.loop-place-test.true, c.loop-place.auto.moves) in
    record {
      same = still_set c.args.moves.now c.loop-place.moves c.loop-place.place c.index-moves-place.result c.reserve.new.self within c.loop-place.invariant.same c.reserve.ensures.same;
      room = room_more c.loop-place.moves c.loop-place.place c.reserve.new.self within c.loop-place.invariant.room c.in_ok-reserve.ensures.room;
    }

pub returns-clause-room : goal.returns-clause-room
returns-clause-room c =
    room_all c.loop-place.moves (λ k d h. c.loop-place.invariant.room k d (omega (arith, c.loop-place-test.false, c.loop-place.auto.moves)))
