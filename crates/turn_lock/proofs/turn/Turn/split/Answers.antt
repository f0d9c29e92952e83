use Rattle.std.proofs.Common.{◌≡◌, ◌≤◌, ◌∙◌, ap, sym, subst, arith, false}
use Rattle.turn_lock.proofs.Tokens.{splits}
use Rattle.turn_lock.proofs.turn.Turn.split.Goals as goal

pub split_seat-seat-requires : goal.split_seat-seat-requires
split_seat-seat-requires g c =
    let is = c.token.view_is in
    let idle : c.token.inside.seat.me.0.holds ≡ false = ap (λ k. k.holds) is ∙ c.requires.idle in
    let parts : 2 ≤ c.token.inside.seat.me.0.parts = subst (λ n. 2 ≤ n) (sym (ap (λ k. k.parts) is)) c.requires.parts in
    (ap (λ k. k.turn) is ∙ c.requires.of_turn ∙ sym c.self.view_is, omega (arith, c.self.invariant.0), splits _ _ _ _ ((c.token.invariant.1 idle).0) idle parts)
