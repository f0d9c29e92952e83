use Rattle.std.proofs.Common.{sym, ◌∙◌, ap, is_some}
use Rattle.std.specs.Map.{lookup}
use Rattle.std.specs.Str.{bytes_eq}
use Rattle.node_runner.specs.VolumeInside.{object_of}
use Rattle.node_runner.proofs.Objects.{has-seen}
use Rattle.node_runner.proofs.volume.Volume.has.Goals as goal

pub returns : goal.returns
returns c =
    c.contains_key.ensures ∙ sym (has-seen (object_of c.self.inside.mode) c.args.name.now c.self.inside.kept.entries) ∙ ap (λ v. is_some (lookup (bytes_eq c.args.name.now) v.objects)) c.self.view_is
