use Rattle.std.proofs.Common.{◌≡◌, map}
use Rattle.std.specs.List.{range_with_len}
use Rattle.code_mode.specs.Payload.{fill_state, fill_byte}
use Rattle.code_mode.proofs.payload.fill_bytes.Given as goal

abbrev pub invariant-bytes : goal.invariant-bytes
invariant-bytes l = record {
  state : l.state ≡ fill_state l.seed l.counter;
  bytes : l.bytes.items ≡ map (fill_byte l.seed) (range_with_len 0 l.counter);
}
