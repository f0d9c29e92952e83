use Rattle.std.proofs.Common.{None, ◌∙◌, ap, cond}
use Rattle.std.specs.Map.{lookup}
use Rattle.std.specs.Str.{bytes_eq}
use Rattle.cluster_admin.proofs.NameBlocks.{index_changed}
use Rattle.cluster_admin.proofs.name_index.NameIndex.remove.Goals as goal

pub returns : goal.returns
returns c = λ other.
    let updates = c.swap_remove-block.ensures.updates in
    index_changed c.args.name.now c.self.inside.blocks.entries c.swap_remove-block.new.self.entries None updates.1 updates.3 other
    ∙ ap (λ names. cond (bytes_eq c.args.name.now other) None (lookup (bytes_eq other) names)) c.self.view_is
