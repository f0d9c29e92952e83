use Rattle.std.proofs.Common.{◌≡◌, ◌<◌, ◌∙◌, false, arith}
use Rattle.turn_lock.proofs.Moves.{draws}
use Rattle.turn_lock.proofs.steps.draw.Goals as goal

pub compare_exchange-requires : goal.compare_exchange-requires
compare_exchange-requires g c =
    let i = c.loop.invariant in
    let idle : c.loop.seat.me.0.holds ≡ false = rw i.2 c.requires.idle.0 in
    let parts : 0 < c.loop.seat.me.0.parts = rw i.2 c.requires.idle.1 in
    (i.0 ∙ c.requires.table.0, omega (arith, c.requires.table.1), draws _ _ _ c.loop.seat.id c.loop.seat.me.0 c.loop.seat.me.1 c.peek-drawn.result idle parts (omega arith))
