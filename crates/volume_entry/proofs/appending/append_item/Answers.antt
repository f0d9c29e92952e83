use Rattle.std.proofs.Common.{sym, subst, ℕ, ◌+◌, length, Ok, Err}
use Rattle.gate_log.specs.GateLog.{shown}
use Rattle.volume_entry.specs.RecordBytes.{record_of}
use Rattle.volume_entry.specs.Spelling.{Spells}
use Rattle.volume_entry.specs.Book.{CountsFault, AppendEnds, item_size, fault_by_append}
use Rattle.volume_entry.specs.declared.fault.EntryFault.{EntryFault}
use Rattle.volume_entry.proofs.LogEnds.{spelled_length, cause_is, refused_counts, refused_ends}
use Rattle.volume_entry.proofs.BookLasts.{grows_appended, grows_refused}
use Rattle.volume_entry.proofs.BookMoments.{crash_appended}
use Rattle.volume_entry.proofs.appending.append_item.Goals as goal

pub fault_of-requires : goal.fault_of-requires
fault_of-requires g c =
    let spells : Spells c.args.vid c.args.mode (record_of c.args.item.now) c.as_slice.result.now = subst (Spells c.args.vid c.args.mode (record_of c.args.item.now)) (sym c.as_slice.ensures) c.in_ok-body.ensures in
    cause_is c.args.vid c.args.mode (record_of c.args.item.now) c.as_slice.result.now spells
    (shown g.E.Extent.seen c.args.log.now) (shown g.E.Extent.seen c.append.new.self) c.requires.room c.in-Err.fault c.in-Err.ensures.answer

pub returns-clause-counts : goal.returns-clause-counts
returns-clause-counts g c =
    let spells : Spells c.args.vid c.args.mode (record_of c.args.item.now) c.as_slice.result.now = subst (Spells c.args.vid c.args.mode (record_of c.args.item.now)) (sym c.as_slice.ensures) c.in_ok-body.ensures in
    subst (λ (f : EntryFault). CountsFault {T = ℕ} (g.E.Extent.seen c.args.log.now.file).faults (g.E.Extent.seen c.append.new.self.file).faults (Err f)) (sym c.fault_of.ensures)
    (refused_counts c.args.vid c.args.mode (record_of c.args.item.now) c.as_slice.result.now spells
    (shown g.E.Extent.seen c.args.log.now) (shown g.E.Extent.seen c.append.new.self) c.requires.room c.in-Err.fault c.in-Err.ensures.answer c.in-Err.ensures.call)

pub returns-clause-ends : goal.returns-clause-ends
returns-clause-ends g c =
    let spells : Spells c.args.vid c.args.mode (record_of c.args.item.now) c.as_slice.result.now = subst (Spells c.args.vid c.args.mode (record_of c.args.item.now)) (sym c.as_slice.ensures) c.in_ok-body.ensures in
    subst (λ (f : EntryFault). AppendEnds (shown g.E.Extent.seen c.args.log.now) (shown g.E.Extent.seen c.append.new.self) (Err f)) (sym c.fault_of.ensures)
    (refused_ends c.args.vid c.args.mode (record_of c.args.item.now) c.as_slice.result.now spells
    (shown g.E.Extent.seen c.args.log.now) (shown g.E.Extent.seen c.append.new.self) c.requires.room c.in-Err.fault c.in-Err.ensures.answer)

pub returns-in-Ok-clause-grows : goal.returns-in-Ok-clause-grows
returns-in-Ok-clause-grows g c =
    let spells : Spells c.args.vid c.args.mode (record_of c.args.item.now) c.as_slice.result.now = subst (Spells c.args.vid c.args.mode (record_of c.args.item.now)) (sym c.as_slice.ensures) c.in_ok-body.ensures in
    grows_appended (length c.as_slice.result.now) (item_size c.args.vid c.args.mode (record_of c.args.item.now)) c.in-Ok.place (shown g.E.Extent.seen c.args.log.now) (shown g.E.Extent.seen c.append.new.self)
    (spelled_length c.args.vid c.args.mode (record_of c.args.item.now) c.as_slice.result.now spells) c.in-Ok.ensures.answer

pub returns-clause-grows : goal.returns-clause-grows
returns-clause-grows g c =
    let spells : Spells c.args.vid c.args.mode (record_of c.args.item.now) c.as_slice.result.now = subst (Spells c.args.vid c.args.mode (record_of c.args.item.now)) (sym c.as_slice.ensures) c.in_ok-body.ensures in
    grows_refused (5 + item_size c.args.vid c.args.mode (record_of c.args.item.now)) (fault_by_append c.in-Err.fault) (shown g.E.Extent.seen c.args.log.now) (shown g.E.Extent.seen c.append.new.self)
    (refused_ends c.args.vid c.args.mode (record_of c.args.item.now) c.as_slice.result.now spells
    (shown g.E.Extent.seen c.args.log.now) (shown g.E.Extent.seen c.append.new.self) c.requires.room c.in-Err.fault c.in-Err.ensures.answer)

pub returns-in-Ok-clause-moments : goal.returns-in-Ok-clause-moments
returns-in-Ok-clause-moments g c =
    let spells : Spells c.args.vid c.args.mode (record_of c.args.item.now) c.as_slice.result.now = subst (Spells c.args.vid c.args.mode (record_of c.args.item.now)) (sym c.as_slice.ensures) c.in_ok-body.ensures in
    crash_appended c.args.vid c.args.mode (record_of c.args.item.now) c.as_slice.result.now spells (shown g.E.Extent.seen c.args.log.now) (shown g.E.Extent.seen c.append.new.self) (Ok c.in-Ok.place) c.in-Ok.ensures.appends

pub returns-clause-moments : goal.returns-clause-moments
returns-clause-moments g c =
    let spells : Spells c.args.vid c.args.mode (record_of c.args.item.now) c.as_slice.result.now = subst (Spells c.args.vid c.args.mode (record_of c.args.item.now)) (sym c.as_slice.ensures) c.in_ok-body.ensures in
    crash_appended c.args.vid c.args.mode (record_of c.args.item.now) c.as_slice.result.now spells (shown g.E.Extent.seen c.args.log.now) (shown g.E.Extent.seen c.append.new.self) (Err c.in-Err.fault) c.in-Err.ensures.appends
