use Rattle.std.proofs.Common.{sym, ◌∙◌, ap}
use Rattle.std.specs.Str.{bytes_eq}
use Rattle.std.specs.Map.{lookup}
use Rattle.cluster_admin.proofs.NameLemmas.{lookup_seen}
use Rattle.cluster_admin.proofs.name_index.NameIndex.get.Goals as goal

pub returns : goal.returns
returns c =
    c.copied.ensures ∙ c.get.ensures.value ∙ sym (lookup_seen c.args.name.now c.self.inside.blocks.entries) ∙ ap (lookup (bytes_eq c.args.name.now)) c.self.view_is
