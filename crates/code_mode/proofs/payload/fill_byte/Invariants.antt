use Rattle.std.proofs.Common.{◌≡◌}
use Rattle.code_mode.specs.Payload.{fill_state}
use Rattle.code_mode.proofs.payload.fill_byte.Given as goal

abbrev pub invariant-steps : goal.invariant-steps
invariant-steps l = l.state ≡ fill_state l.seed l.counter
