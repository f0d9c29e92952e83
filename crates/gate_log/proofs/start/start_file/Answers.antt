use Rattle.std.proofs.Common.{None}
use Rattle.gate_log.proofs.Starts.{start_whole}
use Rattle.gate_log.proofs.start.start_file.Goals as goal

pub returns-clause-starts : goal.returns-clause-starts
returns-clause-starts g c =
    start_whole (g.E.Extent.seen c.args.file.now) (g.E.Extent.seen c.open_file.new.file) c.open_file.ensures.reads.only (g.E.Extent.seen c.finish_file.new.file) c.in_ok-len.len None c.finish_file.result
    c.in_ok-len.ensures.answer c.finish_file.ensures.finishes
