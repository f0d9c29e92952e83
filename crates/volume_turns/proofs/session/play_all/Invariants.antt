use Rattle.std.proofs.Common.{◌≡◌}
use Rattle.rs_code.specs.Shape.{shape}
use Rattle.volume_turns.proofs.Sessions.{HasPlayed}
use Rattle.volume_turns.proofs.session.play_all.Given as goal

abbrev pub invariant-turns : goal.invariant-turns
invariant-turns g l = record {
  coder : shape l.coder ≡ shape l.fn.coder;
  gone : HasPlayed (g.P.Port.seen l.fn.port) (g.P.Port.seen l.port) l.commands l.command-index l.replies.items;
}
