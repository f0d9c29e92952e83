use Rattle.std.proofs.Common.{◌≡◌}
use Rattle.rs_code.specs.Shape.{shape}
use Rattle.code_tests.proofs.shards.choices_back.Given as goal

abbrev pub invariant-loop-dropped : goal.invariant-loop-dropped
invariant-loop-dropped l = shape l.coder ≡ record { data_shards = l.n; parity_shards = l.m }
