use Rattle.std.proofs.Common.{refl, subst, Ok, Err}
use Rattle.volume_entry.specs.RecordBytes.{record_of}
use Rattle.volume_entry.specs.Entry.{EntryOver, WritesStep}
use Rattle.volume_entry.proofs.LockSteps.{locked_follows, followed_step, unwritten_step}
use Rattle.volume_entry.proofs.entry.Entry.write_lock.Goals as goal

pub returns-in-Ok-clause-writes : goal.returns-in-Ok-clause-writes
returns-in-Ok-clause-writes g c =
    let item = record_of c.args.item.now in
    let old : EntryOver g.row.E.Denot = record { book = c.self.inside.book; heard = c.self.inside.heard; broken = c.self.inside.broken } in
    let new : EntryOver g.row.E.Denot = record { book = c.write.new.self; heard = c.lock.new.self; broken = c.self.inside.broken } in
    subst (λ s. WritesStep g.E.Extent.seen item s new (Ok tt)) c.self.view_is
    (followed_step g.E.Extent.seen old new item (locked_follows item c.args.moves.items old.heard new.heard c.requires.moves c.lock.ensures) refl c.in-Ok.ensures.writes)

pub returns-in-Err-clause-writes : goal.returns-in-Err-clause-writes
returns-in-Err-clause-writes g c =
    let item = record_of c.args.item.now in
    let old : EntryOver g.row.E.Denot = record { book = c.self.inside.book; heard = c.self.inside.heard; broken = c.self.inside.broken } in
    let new : EntryOver g.row.E.Denot = record { book = c.write.new.self; heard = c.self.inside.heard; broken = c.self.inside.broken } in
    subst (λ s. WritesStep g.E.Extent.seen item s new (Err c.in-Err.fault)) c.self.view_is
    (unwritten_step g.E.Extent.seen old new item c.in-Err.fault refl refl c.in-Err.ensures.writes)
