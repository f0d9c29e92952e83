use Rattle.std.proofs.Common.{◌≡◌, take}
use Rattle.code_mode.specs.Stripe.{joined}
use Rattle.code_mode.proofs.stripe.join.Given as goal

abbrev pub invariant-loop-index : goal.invariant-loop-index
invariant-loop-index l = l.bytes.items ≡ take l.size (joined l.index l.shards)
