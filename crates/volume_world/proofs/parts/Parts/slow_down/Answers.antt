use Rattle.std.proofs.Common.{refl, []}
use Rattle.blob_node.specs.declared.fate.Fate.TheVariants as fate
use Rattle.volume_world.proofs.HandledPasses.{heard_done}
use Rattle.volume_world.proofs.SendPasses.{ends_as}
use Rattle.volume_world.proofs.parts.Parts.slow_down.Goals as goal

pub returns : goal.returns
returns g c =
    heard_done g.H.Shelf.seen g.H.File.Extent.seen c.args.request.now fate.Slow tt c.in_ok-answer.answer c.args.self.now c.serve_and_hear.new.self c.wait.new.self c.end_send.new.self
    c.in_ok-answer.ensures c.wait.ensures c.requires.ready c.requires.sendable c.requires.fate
    (ends_as _ _ _ _ _ _ [] c.wait.new.self c.end_send.new.self c.disk_of.ensures c.request_kept.ensures c.kept.ensures c.end_send.ensures)
