use Rattle.std.proofs.Common.{◌∙◌, ap, refl, subst, replicate, false, None, Ok}
use Rattle.disk_base.specs.Disk.{Lasts}
use Rattle.gate_log.specs.GateLog.{LogOver}
use Rattle.volume_entry.specs.RecordBytes.{record_of}
use Rattle.volume_entry.specs.TableParts.{part_of}
use Rattle.volume_entry.specs.Making.{Begins}
use Rattle.volume_entry.proofs.EntryMade.{made_room, made_sound, made_ok, made_none, no_flag}
use Rattle.volume_entry.proofs.entry.Entry.make.Goals as goal

pub returns-in_default : goal.returns-in_default
returns-in_default g c = made_none g.E.Extent.seen c.args.vid c.args.shape c.args.homes.now c.args.file c.requires.new

pub write_first-requires-clause-room : goal.write_first-requires-clause-room
write_first-requires-clause-room g c = made_room c.args.vid c.args.shape c.args.homes.now c.requires.homes (record_of c.in-Ok.item) c.in-Ok.ensures.0

pub invariant_of-book : goal.invariant_of-book
invariant_of-book g c = made_sound c.args.shape c.args.homes.now c.requires.homes c.write_first.new.log.end (part_of c.in-Ok.table) c.in-Ok.ensures.1 c.in-Ok-write_first.ensures.begins.0

pub returns : goal.returns
returns g c =
    let log : LogOver g.row.E.Denot = record { file = c.write_first.new.log.file; end = c.write_first.new.log.end } in
    let begins : Begins g.E.Extent.seen c.args.vid c.args.shape.mode (record_of c.in-Ok.item) (record { file = c.args.file; end = None }) log (Ok tt) =
    subst (λ old. Begins g.E.Extent.seen c.args.vid c.args.shape.mode (record_of c.in-Ok.item) old log (Ok tt)) c.over-log.ensures c.in-Ok-write_first.ensures.begins in
    made_ok g.E.Extent.seen c.args.vid c.args.shape c.args.homes.now c.requires.homes c.args.file log (part_of c.in-Ok.table) c.in-Ok.ensures.1 (record_of c.in-Ok.item) c.in-Ok.ensures.0 begins
    c.in-Ok.heard c.in-Ok.ensures.2 (replicate 65 false)
    (c.in-Ok-write_first.ensures.counts ∙ ap (λ (old : LogOver g.row.E.Denot). (g.E.Extent.seen old.file).faults) c.over-log.ensures)
    c.in-Ok-write_first.ensures.grows
    (subst (λ (old : LogOver g.row.E.Denot). Lasts (g.E.Extent.seen old.file) (g.E.Extent.seen c.write_first.new.log.file)) c.over-log.ensures c.in-Ok-write_first.ensures.lasts)
    (no_flag 65) refl
