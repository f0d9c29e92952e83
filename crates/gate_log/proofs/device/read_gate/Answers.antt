use Rattle.gate_log.proofs.Fetch.{if_some, at_some, gate_read}
use Rattle.disk_base.specs.Disk.{ReadsAt}
use Rattle.gate_log.proofs.device.read_gate.Goals as goal

pub returns-clause-gate : goal.returns-clause-gate
returns-clause-gate g c =
    if_some ((g.E.Extent.seen c.args.file.now).content) _
    (λ bytes told. gate_read c.in_ok-count.count c.args.place c.read_at.new.out bytes c.gate_in.result c.read_at.auto.out
    (at_some ((g.E.Extent.seen c.args.file.now).content) bytes (λ b. ReadsAt c.in_ok-count.count c.args.place c.read_at.new.out b) told c.in_ok-count.ensures.bytes)
    c.gate_in.ensures.gate c.gate_in.ensures.number c.gate_in.ensures.none)
