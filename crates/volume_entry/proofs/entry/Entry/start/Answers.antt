use Rattle.std.proofs.Common.{refl, subst, Ok, Err, Bool}
use Rattle.volume_entry.specs.Entry.{EntryOver, EntryCall, Restarts}
use Rattle.volume_entry.proofs.EntryStarts.{started_call, refused_call, started_told, refused_told}
use Rattle.volume_entry.proofs.entry.Entry.start.Goals as goal

pub returns-in-Ok-clause-call : goal.returns-in-Ok-clause-call
returns-in-Ok-clause-call g c =
    let old : EntryOver g.row.E.Denot = record { book = c.self.inside.book; heard = c.self.inside.heard; broken = c.self.inside.broken } in
    let new : EntryOver g.row.E.Denot = record { book = c.start.new.self; heard = c.in-Ok.heard; broken = c.self.inside.broken } in
    subst (λ s. EntryCall g.E.Extent.seen s new (Ok c.in-Ok.found)) c.self.view_is (started_call g.E.Extent.seen old new c.in-Ok.found c.in-Ok.heard refl c.in-Ok.ensures.starts)

pub returns-in-Ok-clause-told : goal.returns-in-Ok-clause-told
returns-in-Ok-clause-told g c =
    let old : EntryOver g.row.E.Denot = record { book = c.self.inside.book; heard = c.self.inside.heard; broken = c.self.inside.broken } in
    let new : EntryOver g.row.E.Denot = record { book = c.start.new.self; heard = c.in-Ok.heard; broken = c.self.inside.broken } in
    subst (λ s. Restarts g.E.Extent.seen s new (Ok c.in-Ok.found)) c.self.view_is (started_told g.E.Extent.seen old new c.in-Ok.found c.in-Ok.heard refl c.in-Ok.ensures.starts)

pub returns-in-Err-clause-call : goal.returns-in-Err-clause-call
returns-in-Err-clause-call g c =
    let old : EntryOver g.row.E.Denot = record { book = c.self.inside.book; heard = c.self.inside.heard; broken = c.self.inside.broken } in
    let new : EntryOver g.row.E.Denot = record { book = c.start.new.self; heard = c.self.inside.heard; broken = c.self.inside.broken } in
    subst (λ s. EntryCall g.E.Extent.seen {T = Bool} s new (Err c.in-Err.fault)) c.self.view_is (refused_call g.E.Extent.seen old new c.in-Err.fault refl c.in-Err.ensures.starts)

pub returns-in-Err-clause-told : goal.returns-in-Err-clause-told
returns-in-Err-clause-told g c =
    let old : EntryOver g.row.E.Denot = record { book = c.self.inside.book; heard = c.self.inside.heard; broken = c.self.inside.broken } in
    let new : EntryOver g.row.E.Denot = record { book = c.start.new.self; heard = c.self.inside.heard; broken = c.self.inside.broken } in
    subst (λ s. Restarts g.E.Extent.seen s new (Err c.in-Err.fault)) c.self.view_is (refused_told g.E.Extent.seen old new c.in-Err.fault refl c.in-Err.ensures.starts)
