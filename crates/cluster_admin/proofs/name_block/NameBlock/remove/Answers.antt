use Rattle.std.proofs.Common.{sym, ◌∙◌, ap}
use Rattle.std.specs.Prelude.{map}
use Rattle.std.specs.Map.{lookup, remove_entry}
use Rattle.std.specs.Str.{bytes_eq}
use Rattle.cluster_admin.specs.Names.{seen}
use Rattle.cluster_admin.proofs.NameLemmas.{lookup_seen, remove_seen}
use Rattle.cluster_admin.proofs.name_block.NameBlock.remove.Goals as goal

pub returns-clause-found : goal.returns-clause-found
returns-clause-found c =
    c.shift_remove.ensures.value ∙ sym (lookup_seen c.args.name.now c.self.inside.held.entries) ∙ ap (lookup (bytes_eq c.args.name.now)) c.self.view_is

pub returns-clause-rest : goal.returns-clause-rest
returns-clause-rest c =
    ap (map seen) c.shift_remove.ensures.entries ∙ sym (remove_seen c.args.name.now c.self.inside.held.entries) ∙ ap (remove_entry (bytes_eq c.args.name.now)) c.self.view_is
