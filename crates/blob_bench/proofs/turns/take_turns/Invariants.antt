use Rattle.std.proofs.Common.{◌≡◌, false}
use Rattle.blob_bench.proofs.turns.take_turns.Given as goal

abbrev pub invariant-loop : goal.invariant-loop
invariant-loop g l = (l.token.turn ≡ l.turn) × (l.token.holds ≡ false) × (l.token.parts ≡ l.initial.token.parts)
