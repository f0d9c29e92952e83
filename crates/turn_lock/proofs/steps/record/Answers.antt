use Rattle.std.proofs.Common.{arith}
use Rattle.turn_lock.proofs.Moves.{counts}
use Rattle.turn_lock.proofs.steps.record.Goals as goal

pub store-requires : goal.store-requires
store-requires g c =
    let v = c.requires.value in
    (c.requires.table.0, omega (arith, c.requires.table.1), rw v.1 (counts _ _ _ c.args.seat.now.id c.args.seat.now.me.0 v.0 c.args.count c.requires.holding.0 c.requires.holding.1 v.2.1 v.3))
