use Rattle.std.proofs.Common.{refl, sym, ap, subst, Ok, Err}
use Rattle.volume_entry.specs.Manager.{Grant, ManagerRecord}
use Rattle.volume_entry.specs.Entry.{EntryOver, WritesStep}
use Rattle.volume_entry.proofs.LockSteps.{followed_step, unwritten_step}
use Rattle.volume_entry.proofs.entry.Entry.write_retarget.Goals as goal

pub returns-in-Ok-clause-writes : goal.returns-in-Ok-clause-writes
returns-in-Ok-clause-writes g c =
    let item = ManagerRecord.Retargeted c.args.grant in
    let old : EntryOver g.row.E.Denot = record { book = c.self.inside.book; heard = c.self.inside.heard; broken = c.self.inside.broken } in
    let new : EntryOver g.row.E.Denot = record { book = c.write.new.self; heard = c.retarget.new.self; broken = c.self.inside.broken } in
    subst (λ s. WritesStep g.E.Extent.seen item s new (Ok tt)) c.self.view_is
    (followed_step g.E.Extent.seen old new item (c.retarget.ensures c.args.grant (sym (ap (λ (t : Grant). t.index) c.grant.view_is))) refl c.in-Ok.ensures.writes)

pub returns-clause-writes : goal.returns-clause-writes
returns-clause-writes g c =
    let item = ManagerRecord.Retargeted c.args.grant in
    let old : EntryOver g.row.E.Denot = record { book = c.self.inside.book; heard = c.self.inside.heard; broken = c.self.inside.broken } in
    let new : EntryOver g.row.E.Denot = record { book = c.write.new.self; heard = c.self.inside.heard; broken = c.self.inside.broken } in
    subst (λ s. WritesStep g.E.Extent.seen item s new (Err c.in-Err.fault)) c.self.view_is
    (unwritten_step g.E.Extent.seen old new item c.in-Err.fault refl refl c.in-Err.ensures.writes)
