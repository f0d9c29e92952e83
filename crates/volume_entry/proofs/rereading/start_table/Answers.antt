use Rattle.std.proofs.Common.{sym, subst, Err}
use Rattle.gate_log.specs.GateLog.{shown}
use Rattle.volume_entry.specs.Book.{CountsFault}
use Rattle.volume_entry.specs.BookStart.{StartAnswers}
use Rattle.volume_entry.specs.TableParts.{part_of}
use Rattle.volume_entry.specs.declared.table.Table.{Table}
use Rattle.volume_entry.specs.declared.fault.EntryFault.{EntryFault}
use Rattle.volume_entry.proofs.LogEnds.{reads_keep}
use Rattle.volume_entry.proofs.BookMoments.{crash_started, crash_read}
use Rattle.volume_entry.proofs.BookReads.{start_cause, start_counts, refused_told, started_told, started_has}
use Rattle.volume_entry.proofs.rereading.start_table.Goals as goal

pub fault_of-requires : goal.fault_of-requires
fault_of-requires g c = start_cause (g.E.Extent.seen c.args.log.now.file).content c.in-Err.fault c.in-Err.ensures.answer

pub returns-in-Err-clause-counts : goal.returns-in-Err-clause-counts
returns-in-Err-clause-counts g c =
    subst (λ (f : EntryFault). CountsFault {T = Table} (g.E.Extent.seen c.args.log.now.file).faults (g.E.Extent.seen c.start.new.self.file).faults (Err f)) (sym c.fault_of.ensures)
    (start_counts c.in-Err.fault (g.E.Extent.seen c.args.log.now.file) (g.E.Extent.seen c.start.new.self.file)
    (start_cause (g.E.Extent.seen c.args.log.now.file).content c.in-Err.fault c.in-Err.ensures.answer) c.in-Err.ensures.call)

pub returns-in-Err-clause-told : goal.returns-in-Err-clause-told
returns-in-Err-clause-told g c = λ bodies items part told spelled log.
    subst (λ (f : EntryFault). StartAnswers part_of bodies part (shown g.E.Extent.seen c.args.log.now) (shown g.E.Extent.seen c.start.new.self) (Err f)) (sym c.fault_of.ensures)
    (refused_told part_of bodies part (shown g.E.Extent.seen c.args.log.now) (shown g.E.Extent.seen c.start.new.self) c.in-Err.fault c.in-Err.ensures.answer c.in-Err.ensures.ends c.in-Err.ensures.starts told)

pub returns-clause-told : goal.returns-clause-told
returns-clause-told g c = λ bodies items part told spelled log.
    let before = shown g.E.Extent.seen c.args.log.now in
    let mid = shown g.E.Extent.seen c.start.new.self in
    let after = shown g.E.Extent.seen c.read_table.new.log in
    let has = started_has part_of bodies part before mid (g.E.Extent.seen c.args.log.now.file).content told c.in-Ok.ensures.starts in
    started_told part_of bodies part before after c.read_table.result (reads_keep mid after bodies c.read_table.ensures.same c.read_table.ensures.reads has)
    (c.read_table.ensures.all bodies has items part spelled log)

pub returns-in-Err-clause-moments : goal.returns-in-Err-clause-moments
returns-in-Err-clause-moments g c = crash_started (shown g.E.Extent.seen c.args.log.now) (shown g.E.Extent.seen c.start.new.self) (Err c.in-Err.fault) c.in-Err.ensures.starts

pub returns-clause-moments : goal.returns-clause-moments
returns-clause-moments g c =
    crash_read (shown g.E.Extent.seen c.args.log.now) (shown g.E.Extent.seen c.start.new.self) (g.E.Extent.seen c.read_table.new.log.file) c.in-Ok.ensures.starts c.read_table.ensures.reads
