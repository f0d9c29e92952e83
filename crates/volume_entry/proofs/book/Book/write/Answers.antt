use Rattle.volume_entry.proofs.EntryKinds.{append_named}
use Rattle.std.proofs.Common.{◌∙◌, sym, ap, subst, Ok, Err}
use Rattle.gate_log.specs.GateLog.{shown}
use Rattle.volume_entry.specs.Manager.{IsLegal, written}
use Rattle.volume_entry.specs.RecordBytes.{record_of}
use Rattle.volume_entry.specs.TableParts.{part_of, shape_of}
use Rattle.volume_entry.specs.Book.{BookOver, CrashAppends, HasRoom, WritesRecord, EndGrows, end_unless, item_size, doubt_after}
use Rattle.volume_entry.proofs.SoundParts.{small_item, room_of, sound_wrote, sound_refused}
use Rattle.volume_entry.proofs.BookLasts.{grows_unless}
use Rattle.volume_entry.proofs.BookMoments.{crash_unless}
use Rattle.volume_entry.proofs.BookEnds.{writes_ok, writes_err}
use Rattle.volume_entry.proofs.book.Book.write.Goals as goal

pub append_item-requires-clause-room : goal.append_item-requires-clause-room
append_item-requires-clause-room g c =
    let legal : IsLegal (shape_of c.self.inside.shape) (part_of c.self.inside.table) (record_of c.args.item.now) = subst (λ s. IsLegal (shape_of s.shape) s.part (record_of c.args.item.now)) (sym c.self.view_is) c.requires.legal in
    let room : HasRoom (end_unless c.self.inside.is_shut c.self.inside.log.end) = subst (λ s. HasRoom s.log.end) (sym c.self.view_is) c.requires.room in
    room_of c.self.inside.shape c.self.inside.vid c.self.inside.is_shut c.self.inside.log.end (part_of c.self.inside.table) (record_of c.args.item.now) legal room

pub invariant_of-self-in-Ok : goal.invariant_of-self-in-Ok
invariant_of-self-in-Ok g c =
    let legal : IsLegal (shape_of c.self.inside.shape) (part_of c.self.inside.table) (record_of c.args.item.now) = subst (λ s. IsLegal (shape_of s.shape) s.part (record_of c.args.item.now)) (sym c.self.view_is) c.requires.legal in
    let room : HasRoom (end_unless c.self.inside.is_shut c.self.inside.log.end) = subst (λ s. HasRoom s.log.end) (sym c.self.view_is) c.requires.room in
    sound_wrote c.self.inside.shape c.self.inside.is_shut c.self.inside.log.end c.append_item.new.log.end c.in-Ok._place (part_of c.self.inside.table) (part_of c.take_prepared.new.self) (record_of c.args.item.now)
    room c.self.invariant c.in-Ok.ensures.ends.0 c.in-Ok.ensures.ends.1 legal
    (c.in_ok-take_prepared-in-Ok.ensures.taken ∙ ap (written (record_of c.args.item.now)) c.prepare.ensures.same)

pub invariant_of-self-in-Err-1 : goal.invariant_of-self-in-Err-1
invariant_of-self-in-Err-1 g c =
    sound_refused c.self.inside.shape c.self.inside.is_shut (shown g.E.Extent.seen c.self.inside.log) (shown g.E.Extent.seen c.append_item.new.log) (part_of c.self.inside.table) (part_of c.prepare.new.self) c.in-Err.fault
    c.in-Err.ensures.ends c.self.invariant c.prepare.ensures.same

pub returns-in_ok-take_prepared-in-Ok-clause-writes : goal.returns-in_ok-take_prepared-in-Ok-clause-writes
returns-in_ok-take_prepared-in-Ok-clause-writes g c =
    let item = record_of c.args.item.now in
    let legal : IsLegal (shape_of c.self.inside.shape) (part_of c.self.inside.table) item = subst (λ s. IsLegal (shape_of s.shape) s.part item) (sym c.self.view_is) c.requires.legal in
    let room : HasRoom (end_unless c.self.inside.is_shut c.self.inside.log.end) = subst (λ s. HasRoom s.log.end) (sym c.self.view_is) c.requires.room in
    let new : BookOver g.row.E.Denot = record { vid = c.self.inside.vid; shape = c.self.inside.shape; log = record { file = c.append_item.new.log.file; end = end_unless c.self.inside.is_shut c.append_item.new.log.end }; part = part_of c.take_prepared.new.self; doubt = c.self.inside.doubt } in
    subst (λ s. WritesRecord g.E.Extent.seen item s new (Ok tt)) c.self.view_is
    (writes_ok g.E.Extent.seen c.self.inside.vid c.self.inside.shape item c.self.inside.log c.append_item.new.log (part_of c.self.inside.table) (part_of c.take_prepared.new.self) c.self.inside.doubt c.self.inside.doubt
    c.self.inside.is_shut c.in-Ok._place room legal
    (c.in_ok-take_prepared-in-Ok.ensures.taken ∙ ap (written item) c.prepare.ensures.same) c.in-Ok.ensures.counts c.in-Ok.ensures.ends c.in-Ok.ensures.appends)

pub returns-in-Err-clause-writes : goal.returns-in-Err-clause-writes
returns-in-Err-clause-writes g c =
    let item = record_of c.args.item.now in
    let legal : IsLegal (shape_of c.self.inside.shape) (part_of c.self.inside.table) item = subst (λ s. IsLegal (shape_of s.shape) s.part item) (sym c.self.view_is) c.requires.legal in
    let room : HasRoom (end_unless c.self.inside.is_shut c.self.inside.log.end) = subst (λ s. HasRoom s.log.end) (sym c.self.view_is) c.requires.room in
    let new : BookOver g.row.E.Denot = record { vid = c.self.inside.vid; shape = c.self.inside.shape; log = record { file = c.append_item.new.log.file; end = end_unless c.self.inside.is_shut c.append_item.new.log.end }; part = part_of c.prepare.new.self; doubt = c.doubt_after-self-inside.result } in
    subst (λ s. WritesRecord g.E.Extent.seen item s new (Err c.in-Err.fault)) c.self.view_is
    (writes_err g.E.Extent.seen c.self.inside.vid c.self.inside.shape item c.self.inside.log c.append_item.new.log (part_of c.self.inside.table) (part_of c.prepare.new.self) c.self.inside.doubt c.doubt_after-self-inside.result
    c.self.inside.is_shut c.in-Err.fault room legal c.prepare.ensures.same
    (c.doubt_after-self-inside.ensures ∙ ap (λ o. doubt_after c.in-Err.fault o c.self.inside.doubt) (c.end-end.ensures ∙ ap (λ s. s.log.end) (sym c.self.view_is)))
    c.in-Err.ensures.counts c.in-Err.ensures.ends c.in-Err.ensures.appends)

pub returns-in_ok-take_prepared-in-Ok-clause-grows : goal.returns-in_ok-take_prepared-in-Ok-clause-grows
returns-in_ok-take_prepared-in-Ok-clause-grows g c =
    let legal : IsLegal (shape_of c.self.inside.shape) (part_of c.self.inside.table) (record_of c.args.item.now) = subst (λ s. IsLegal (shape_of s.shape) s.part (record_of c.args.item.now)) (sym c.self.view_is) c.requires.legal in
    subst (λ s. EndGrows s.log.end (end_unless c.self.inside.is_shut c.append_item.new.log.end)) c.self.view_is
    (grows_unless c.self.inside.is_shut (item_size c.self.inside.vid c.self.inside.shape.mode (record_of c.args.item.now)) c.self.inside.log.end c.append_item.new.log.end
    (small_item c.self.inside.shape c.self.inside.vid (part_of c.self.inside.table) (record_of c.args.item.now) legal) c.in-Ok.ensures.grows)

pub returns-in_ok-take_prepared-in-Ok-clause-moments : goal.returns-in_ok-take_prepared-in-Ok-clause-moments
returns-in_ok-take_prepared-in-Ok-clause-moments g c =
    subst (λ (s : BookOver g.row.E.Denot). CrashAppends s.vid s.shape.mode (record_of c.args.item.now) (shown g.E.Extent.seen s.log) (g.E.Extent.seen c.append_item.new.log.file)) c.self.view_is
    (crash_unless c.self.inside.vid c.self.inside.shape.mode (record_of c.args.item.now) g.E.Extent.seen c.self.inside.is_shut c.self.inside.log c.append_item.new.log c.in-Ok.ensures.moments)

pub returns-in-Err-clause-moments : goal.returns-in-Err-clause-moments
returns-in-Err-clause-moments g c =
    subst (λ (s : BookOver g.row.E.Denot). CrashAppends s.vid s.shape.mode (record_of c.args.item.now) (shown g.E.Extent.seen s.log) (g.E.Extent.seen c.append_item.new.log.file)) c.self.view_is
    (crash_unless c.self.inside.vid c.self.inside.shape.mode (record_of c.args.item.now) g.E.Extent.seen c.self.inside.is_shut c.self.inside.log c.append_item.new.log c.in-Err.ensures.moments)

pub returns-in-Err-clause-named : goal.returns-in-Err-clause-named
returns-in-Err-clause-named g c = append_named c.in-Err.fault (shown g.E.Extent.seen c.self.inside.log) (shown g.E.Extent.seen c.append_item.new.log) c.in-Err.ensures.ends
