use Rattle.std.specs.Str.{bytes_eq}
use Rattle.std.proofs.Common.{sym, ◌∙◌, ap, Some, None, option_map}
use Rattle.node_runner.specs.VolumeInside.{object_of}
use Rattle.node_runner.proofs.Objects.{found-seen, found_whole}
use Rattle.node_runner.proofs.volume.Volume.get.Goals as goal

pub returns-in_default-clause-bytes : goal.returns-in_default-clause-bytes
returns-in_default-clause-bytes c =
    let none = found-seen (object_of c.self.inside.mode) c.args.name.now c.self.inside.kept.entries c.args.self.now.objects (ap (λ v. v.objects) c.self.view_is) None c.in_default.ensures.value in
    sym (ap (option_map (λ object. object.bytes)) none)

pub returns-clause-bytes : goal.returns-clause-bytes
returns-clause-bytes c =
    let found = found-seen (object_of c.self.inside.mode) c.args.name.now c.self.inside.kept.entries c.args.self.now.objects (ap (λ v. v.objects) c.self.view_is) (Some c.in-Some.kept.now) c.in-Some.ensures.value in
    ap Some c.in_ok-bytes.ensures.blob ∙ sym (ap (option_map (λ object. object.bytes)) found)

pub blob_of-requires-clause-stripe : goal.blob_of-requires-clause-stripe
blob_of-requires-clause-stripe c =
    found_whole c.self.inside.mode (λ k. bytes_eq c.args.name.now k.items) c.in-Some.kept.now c.self.inside.kept.entries c.self.invariant.kept c.in-Some.ensures.value
