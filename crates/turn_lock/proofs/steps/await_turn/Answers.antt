use Rattle.std.proofs.Common.{◌≡◌, ◌<◌, ◌∙◌, subst, false, Some, [], arith}
use Rattle.turn_lock.specs.Steps.{Takes}
use Rattle.turn_lock.proofs.Moves.{serves, is_served, is_not_served}
use Rattle.turn_lock.proofs.steps.await_turn.Goals as goal

pub load-served-requires : goal.load-served-requires
load-served-requires g c =
    let i = c.loop.invariant in
    let ticket : c.loop.seat.me.0.ticket ≡ Some c.args.ticket = rw i.2 c.requires.ticket in
    let idle : c.loop.seat.me.0.holds ≡ false = rw i.2 c.requires.idle.0 in
    let parts : 0 < c.loop.seat.me.0.parts = rw i.2 c.requires.idle.1 in
    let empty : c.loop.seat.me.1 ≡ [] = rw i.2 c.requires.idle.2 in
    (i.0 ∙ c.requires.table.0, omega (arith, c.requires.table.1), rw empty (serves _ _ _ c.loop.seat.id c.loop.seat.me.0 c.args.ticket ticket idle parts))

pub returns-then-served-ticket-clause-takes : goal.returns-then-served-ticket-clause-takes
returns-then-served-ticket-clause-takes g c =
    let i = c.loop.invariant in
    let ticket : c.loop.seat.me.0.ticket ≡ Some c.args.ticket = rw i.2 c.requires.ticket in
    let told = is_served _ _ c.load-served.result c.args.ticket _ _ c.if-served-ticket.true (c.load-served.ensures.2 c.args.ticket ticket) in
    subst (λ m. Takes g.T.Recorded.origin g.T.Recorded.past m c.load-served.new.seat.me) i.2 told

pub loop-preserved-then-looks-lt-LOOKS : goal.loop-preserved-then-looks-lt-LOOKS
loop-preserved-then-looks-lt-LOOKS g c =
    let i = c.loop.invariant in
    let l = c.load-served.ensures in
    let ticket : c.loop.seat.me.0.ticket ≡ Some c.args.ticket = rw i.2 c.requires.ticket in
    (l.0 ∙ i.0, l.1 ∙ i.1, is_not_served _ _ c.load-served.result c.args.ticket _ _ c.if-served-ticket.false (l.2 c.args.ticket ticket) ∙ i.2)

pub loop-preserved : goal.loop-preserved
loop-preserved g c =
    let i = c.loop.invariant in
    let l = c.load-served.ensures in
    let ticket : c.loop.seat.me.0.ticket ≡ Some c.args.ticket = rw i.2 c.requires.ticket in
    (l.0 ∙ i.0, l.1 ∙ i.1, is_not_served _ _ c.load-served.result c.args.ticket _ _ c.if-served-ticket.false (l.2 c.args.ticket ticket) ∙ i.2)
