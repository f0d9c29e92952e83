use Rattle.std.proofs.Common.{◌≡◌, ℕ, List, Some, ◌∙◌, ap, cond, map, rules}
use Rattle.std.specs.Map.{lookup}
use Rattle.std.specs.Str.{bytes_eq}
use Rattle.cluster_admin.specs.Names.{seen}
use Rattle.cluster_admin.proofs.NameBlocks.{index_changed}
use Rattle.cluster_admin.proofs.name_index.NameIndex.set.Goals as goal

pub returns-clause-ok : goal.returns-clause-ok
returns-clause-ok c = λ other.
    let old = c.self.inside.blocks.entries in
    let key_is : c.in_ok-key.key.items ≡ c.args.name.now = search rules in
    let updates = c.in_ok-insert.ensures.updates in
    index_changed c.in_ok-key.key.items old c.insert.new.self.entries (Some c.args.block) updates.1 updates.3 other
    ∙ ap (λ (name : List ℕ). cond (bytes_eq name other) (Some c.args.block) (lookup (bytes_eq other) (map seen old))) key_is
    ∙ ap (λ names. cond (bytes_eq c.args.name.now other) (Some c.args.block) (lookup (bytes_eq other) names)) c.self.view_is
