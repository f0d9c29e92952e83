use Rattle.cluster_admin.proofs.NameBlocks.{none_indexed}
use Rattle.cluster_admin.proofs.names.Names.none.Goals as goal

pub invariant_of-result : goal.invariant_of-result
invariant_of-result c = none_indexed c.new.result.items c.none.result c.new.ensures.items c.none.ensures
