use Rattle.std.proofs.Common.{refl, [], ◌∷◌}
use Rattle.blob_node.specs.declared.fate.Fate.TheVariants as fate
use Rattle.volume_world.specs.declared.late.LateItem.TheVariants as items
use Rattle.volume_world.proofs.SendPasses.{unhandled_done, ends_as}
use Rattle.volume_world.proofs.parts.Parts.delay.Goals as goal

pub returns : goal.returns
returns g c =
    unhandled_done g.H.Shelf.seen g.H.File.Extent.seen c.args.request fate.LateRequest tt c.args.self.now c.end_send.new.self c.requires.ready c.requires.sendable c.requires.fate
    (ends_as _ _ _ _ _ _ (items.Request c.args.request ∷ []) c.args.self.now c.end_send.new.self c.disk_of-disk.ensures c.request_kept-kept.ensures refl c.end_send.ensures)
