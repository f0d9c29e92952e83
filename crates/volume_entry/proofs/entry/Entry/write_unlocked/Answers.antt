use Rattle.std.proofs.Common.{refl, subst, Ok, Err}
use Rattle.volume_entry.specs.Manager.{ManagerRecord}
use Rattle.volume_entry.specs.Entry.{EntryOver, WritesStep}
use Rattle.volume_entry.proofs.SwapSteps.{done_writes, failed_writes}
use Rattle.volume_entry.proofs.entry.Entry.write_unlocked.Goals as goal

pub returns-in-Ok-clause-writes : goal.returns-in-Ok-clause-writes
returns-in-Ok-clause-writes g c =
    let old : EntryOver g.row.E.Denot = record { book = c.self.inside.book; heard = c.self.inside.heard; broken = c.self.inside.broken } in
    let new : EntryOver g.row.E.Denot = record { book = c.write.new.self; heard = c.unlock.new.self; broken = c.self.inside.broken } in
    subst (λ s. WritesStep g.E.Extent.seen ManagerRecord.Unlocked s new (Ok tt)) c.self.view_is
    (done_writes g.E.Extent.seen old new ManagerRecord.Unlocked refl tt c.unlock.ensures c.in-Ok.ensures.writes)

pub returns-in-Err-clause-writes : goal.returns-in-Err-clause-writes
returns-in-Err-clause-writes g c =
    let old : EntryOver g.row.E.Denot = record { book = c.self.inside.book; heard = c.self.inside.heard; broken = c.self.inside.broken } in
    let new : EntryOver g.row.E.Denot = record { book = c.write.new.self; heard = c.self.inside.heard; broken = c.self.inside.broken } in
    subst (λ s. WritesStep g.E.Extent.seen ManagerRecord.Unlocked s new (Err c.in-Err.fault)) c.self.view_is
    (failed_writes g.E.Extent.seen old new ManagerRecord.Unlocked refl c.in-Err.fault refl c.in-Err.ensures.writes)
