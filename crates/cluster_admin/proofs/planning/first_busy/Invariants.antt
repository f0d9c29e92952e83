use Rattle.std.proofs.Common.{◌≡◌, drop}
use Rattle.cluster_admin.specs.Planning.{first_busy}
use Rattle.cluster_admin.proofs.planning.first_busy.Given as goal

abbrev pub invariant-loop-index : goal.invariant-loop-index
invariant-loop-index l = first_busy l.tasks l.vid (drop l.index-index l.indexes) ≡ first_busy l.tasks l.vid l.indexes
