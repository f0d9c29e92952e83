use Rattle.std.proofs.Common.{◌≡◌, drop}
use Rattle.std.specs.Prelude.{slice_get}
use Rattle.cluster_admin.specs.Names.{all_names}
use Rattle.cluster_admin.proofs.names.Names.at.Given as goal

abbrev pub invariant-loop-block : goal.invariant-loop-block
invariant-loop-block l = slice_get (all_names (drop l.block-index l.block-items)) l.left ≡ slice_get l.self l.place
