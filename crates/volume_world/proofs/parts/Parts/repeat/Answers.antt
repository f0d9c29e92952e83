use Rattle.std.proofs.Common.{refl, [], ◌∷◌}
use Rattle.blob_node.specs.declared.fate.Fate.TheVariants as fate
use Rattle.volume_world.specs.declared.late.LateItem.TheVariants as items
use Rattle.volume_world.proofs.HandledPasses.{heard_done}
use Rattle.volume_world.proofs.SendPasses.{ends_as}
use Rattle.volume_world.proofs.parts.Parts.repeat.Goals as goal

pub returns : goal.returns
returns g c =
    heard_done g.H.Shelf.seen g.H.File.Extent.seen c.args.request fate.Again tt c.in_ok-answer.answer c.args.self.now c.serve_and_hear.new.self c.serve_and_hear.new.self c.end_send.new.self
    c.in_ok-answer.ensures refl c.requires.ready c.requires.sendable c.requires.fate
    (ends_as _ _ _ _ _ _ (items.Request c.args.request ∷ []) c.serve_and_hear.new.self c.end_send.new.self c.disk_of-disk.ensures c.request_kept-kept.ensures c.kept.ensures c.end_send.ensures)
