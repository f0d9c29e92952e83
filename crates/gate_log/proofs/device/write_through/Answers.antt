use Rattle.std.proofs.Common.{◌≤◌, length}
use Rattle.gate_log.proofs.Fetch.{if_some, at_some}
use Rattle.gate_log.proofs.Through.{through}
use Rattle.gate_log.proofs.device.write_through.Goals as goal

pub returns-clause-through : goal.returns-clause-through
returns-clause-through g c = if_some (g.E.Extent.seen c.args.file.now).content _ (λ was told.
    through c.args.at c.args.bytes.now was (g.E.Extent.seen c.args.file.now) (g.E.Extent.seen c.write_at.new.self) (g.E.Extent.seen c.sync.new.self) _ c.sync.result
    (at_some (g.E.Extent.seen c.args.file.now).content was (λ w. c.args.at ≤ length w) told c.requires.place) told (g.met.E.Extent.is_file c.args.file.now)
    c.in_ok-write_at.ensures.writes c.sync.ensures.syncs)
