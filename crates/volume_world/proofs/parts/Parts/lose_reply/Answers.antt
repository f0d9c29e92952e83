use Rattle.std.proofs.Common.{refl, []}
use Rattle.blob_node.specs.declared.fate.Fate.TheVariants as fate
use Rattle.volume_world.proofs.HandledPasses.{unheard_done}
use Rattle.volume_world.proofs.SendPasses.{ends_as}
use Rattle.volume_world.proofs.parts.Parts.lose_reply.Goals as goal

pub returns : goal.returns
returns g c =
    unheard_done g.H.Shelf.seen g.H.File.Extent.seen c.args.request.now c.in_ok-handle.field-0 c.args.self.now c.handle.new.self c.in_ok-handle.ensures fate.LoseReply tt c.end_send.new.self
    c.requires.ready c.requires.sendable c.requires.fate
    (ends_as _ _ _ _ _ _ [] c.handle.new.self c.end_send.new.self c.disk_of.ensures c.request_kept-kept.ensures refl c.end_send.ensures)
