use Rattle.std.proofs.Common.{◌≡◌, false}
use Rattle.turn_lock.proofs.tests.threads.take_turns.Given as goal

abbrev pub invariant-loop-step : goal.invariant-loop-step
invariant-loop-step g l = (l.token.turn ≡ l.turn) × (l.token.holds ≡ false) × (l.token.parts ≡ l.initial.token.parts)
