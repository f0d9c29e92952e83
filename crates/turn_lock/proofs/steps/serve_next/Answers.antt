use Rattle.std.proofs.Common.{arith}
use Rattle.turn_lock.proofs.Moves.{raises}
use Rattle.turn_lock.proofs.steps.serve_next.Goals as goal

pub fetch_add-served-requires : goal.fetch_add-served-requires
fetch_add-served-requires g c =
    let v = c.requires.value in
    (c.requires.table.0, omega (arith, c.requires.table.1), rw v.1 (raises _ _ _ c.args.seat.now.id c.args.seat.now.me.0 v.0 c.requires.holding.0 c.requires.holding.1 v.2 v.3))
