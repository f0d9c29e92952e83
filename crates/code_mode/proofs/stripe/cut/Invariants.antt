use Rattle.std.proofs.Common.{◌≡◌}
use Rattle.code_mode.specs.Mode.{total_count}
use Rattle.code_mode.specs.Stripe.{pieces}
use Rattle.code_mode.proofs.Cutting.{first_held}
use Rattle.code_mode.proofs.stripe.cut.Given as goal

abbrev pub invariant-loop-index : goal.invariant-loop-index
invariant-loop-index l = l.shards ≡ first_held l.index (pieces l.fn.mode l.blob) (total_count l.fn.mode)
