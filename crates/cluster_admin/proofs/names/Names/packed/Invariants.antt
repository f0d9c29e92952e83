use Rattle.std.proofs.Common.{◌≡◌, ◌++◌, drop}
use Rattle.cluster_admin.specs.Names.{all_names}
use Rattle.cluster_admin.proofs.names.Names.packed.Given as goal

abbrev pub invariant-loop-block : goal.invariant-loop-block
invariant-loop-block l = l.names ++ all_names (drop l.block-index l.block-items) ≡ l.self
