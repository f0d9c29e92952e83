use Rattle.std.proofs.Common.{◌≡◌, ◌∙◌, ap, sym, arith, false}
use Rattle.turn_lock.proofs.Moves.{compares}
use Rattle.turn_lock.proofs.Tokens.{joins}
use Rattle.turn_lock.proofs.turn.Turn.join.Goals as goal

pub join_seat-requires : goal.join_seat-requires
join_seat-requires g c =
    let is = c.token.view_is in
    let is' = c.other.view_is in
    let idle : c.token.inside.seat.me.0.holds ≡ false = ap (λ k. k.holds) is ∙ c.requires.idle.0 in
    let idle' : c.other.inside.seat.me.0.holds ≡ false = ap (λ k. k.holds) is' ∙ c.requires.idle.1 in
    let out = c.token.invariant.1 idle in
    let out' = c.other.invariant.1 idle' in (
      ap (λ k. k.turn) is ∙ c.requires.of_turn.0 ∙ sym c.self.view_is,
      ap (λ k. k.turn) is' ∙ c.requires.of_turn.1 ∙ sym c.self.view_is,
      out'.1,
      omega (arith, c.self.invariant.0),
      joins _ _ _ _ _ _ out.0 idle c.token.invariant.0 out'.0 idle',
    )

pub load-requires : goal.load-requires
load-requires g c =
    let is = c.token.view_is in
    (c.join_seat.ensures.0 ∙ ap (λ k. k.turn) is ∙ c.requires.of_turn.0 ∙ sym c.self.view_is, omega (arith, c.self.invariant.0), compares _ _ _ _ _ _)
