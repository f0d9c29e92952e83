use Rattle.std.proofs.Common.{refl, subst}
use Rattle.volume_entry.specs.RecordBytes.{record_of}
use Rattle.volume_entry.specs.Entry.{EntryOver, WritesStep}
use Rattle.volume_entry.proofs.EntrySteps.{writes_step}
use Rattle.volume_entry.proofs.entry.Entry.write.Goals as goal

pub returns-clause-writes : goal.returns-clause-writes
returns-clause-writes g c =
    let old : EntryOver g.row.E.Denot = record { book = c.self.inside.book; heard = c.self.inside.heard; broken = c.self.inside.broken } in
    let new : EntryOver g.row.E.Denot = record { book = c.write.new.self; heard = c.self.inside.heard; broken = c.self.inside.broken } in
    subst (λ s. WritesStep g.E.Extent.seen (record_of c.args.item.now) s new c.write.result) c.self.view_is
    (writes_step g.E.Extent.seen old new (record_of c.args.item.now) c.write.result c.requires.leaves refl refl c.write.ensures.writes)
