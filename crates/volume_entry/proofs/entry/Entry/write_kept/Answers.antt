use Rattle.std.proofs.Common.{refl, subst, sym}
use Rattle.volume_entry.specs.Manager.{written}
use Rattle.volume_entry.specs.RecordBytes.{record_of}
use Rattle.volume_entry.specs.HeardCalls.{Follows}
use Rattle.volume_entry.specs.Entry.{EntryOver, WritesStep}
use Rattle.volume_entry.proofs.SwapSteps.{kept_writes}
use Rattle.volume_entry.proofs.entry.Entry.write_kept.Goals as goal

pub returns-clause-writes : goal.returns-clause-writes
returns-clause-writes g c =
    let item = record_of c.args.item.now in
    let old : EntryOver g.row.E.Denot = record { book = c.self.inside.book; heard = c.self.inside.heard; broken = c.self.inside.broken } in
    let new : EntryOver g.row.E.Denot = record { book = c.write.new.self; heard = c.self.inside.heard; broken = c.self.inside.broken } in
    subst (λ s. WritesStep g.E.Extent.seen item s new c.write.result) c.self.view_is
    (kept_writes g.E.Extent.seen old new item refl c.write.result (subst (λ (s : EntryOver g.row.E.Denot). Follows (written item) s.heard s.heard) (sym c.self.view_is) c.requires.kept) refl c.write.ensures.writes)
