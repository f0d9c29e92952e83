use Rattle.std.proofs.Common.{subst}
use Rattle.volume_entry.specs.Entry.{EntryOver, Stands}
use Rattle.volume_entry.specs.Manager.{Manager}
use Rattle.volume_entry.proofs.EntrySteps.{with_heard}
use Rattle.volume_entry.proofs.entry.Entry.reserve.Goals as goal

pub returns-in_err-reserve-clause-same : goal.returns-in_err-reserve-clause-same
returns-in_err-reserve-clause-same g c =
    let old : EntryOver g.row.E.Denot = record { book = c.self.inside.book; heard = c.self.inside.heard; broken = c.self.inside.broken } in
    let new : EntryOver g.row.E.Denot = record { book = c.self.inside.book; heard = c.reserve.new.self; broken = c.self.inside.broken } in
    subst (λ s. (m : Manager) → Stands g.E.Extent.seen s m → Stands g.E.Extent.seen new m) c.self.view_is (with_heard g.E.Extent.seen old c.reserve.new.self c.in_err-reserve.ensures.same)

pub returns-clause-same : goal.returns-clause-same
returns-clause-same g c =
    let old : EntryOver g.row.E.Denot = record { book = c.self.inside.book; heard = c.self.inside.heard; broken = c.self.inside.broken } in
    let new : EntryOver g.row.E.Denot = record { book = c.self.inside.book; heard = c.reserve.new.self; broken = c.self.inside.broken } in
    subst (λ s. (m : Manager) → Stands g.E.Extent.seen s m → Stands g.E.Extent.seen new m) c.self.view_is (with_heard g.E.Extent.seen old c.reserve.new.self c.in_ok-reserve.ensures.same)
