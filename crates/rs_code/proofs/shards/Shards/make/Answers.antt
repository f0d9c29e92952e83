use Rattle.std.proofs.Common.{◌-◌, arith}
use Rattle.rs_code.proofs.Places.{none_even}
use Rattle.rs_code.proofs.shards.Shards.make.Goals as goal

pub invariant_of-result : goal.invariant_of-result
invariant_of-result c = rw c.new.ensures.items (omega arith, none_even (c.args.total - 0))
