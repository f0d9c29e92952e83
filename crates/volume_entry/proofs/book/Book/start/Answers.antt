use Rattle.std.proofs.Common.{◌≡◌, ◌∙◌, sym, ap, subst, Ok, Err, None}
use Rattle.volume_entry.specs.HeardMemory.{HeardMemory}
use Rattle.volume_entry.specs.TableParts.{part_of}
use Rattle.volume_entry.specs.Book.{BookOver, end_unless}
use Rattle.volume_entry.specs.BookStart.{StartsBook, shut_after, is_behind}
use Rattle.volume_entry.specs.declared.table.Table.{Table}
use Rattle.volume_entry.proofs.BookStarts.{starts_ok, starts_err, sound_still}
use Rattle.volume_entry.proofs.book.Book.start.Goals as goal

pub invariant_of-self : goal.invariant_of-self
invariant_of-self g c = c.in-Ok.ensures.sound.0.1

pub invariant_of-self-in-Err : goal.invariant_of-self-in-Err
invariant_of-self-in-Err g c =
    let flag : c.shut_after-self-inside.result ≡ shut_after c.in-Err.fault (end_unless c.self.inside.is_shut c.self.inside.log.end) c.start_all.new.log.end =
    c.shut_after-self-inside.ensures ∙ ap (λ o. shut_after c.in-Err.fault o c.end-in-Err.result) (c.end-was.ensures ∙ ap (λ s. s.log.end) (sym c.self.view_is)) ∙ ap (λ o. shut_after c.in-Err.fault (end_unless c.self.inside.is_shut c.self.inside.log.end) o) c.end-in-Err.ensures.end in
    sound_still c.self.inside.shape (end_unless c.self.inside.is_shut c.self.inside.log.end) c.start_all.new.log.end (part_of c.self.inside.table) c.in-Err.fault c.shut_after-self-inside.result flag c.self.invariant

pub returns-in-Ok-clause-starts : goal.returns-in-Ok-clause-starts
returns-in-Ok-clause-starts g c =
    let new : BookOver g.row.E.Denot = record { vid = c.self.inside.vid; shape = c.self.inside.shape; log = record { file = c.start_all.new.log.file; end = c.start_all.new.log.end }; part = part_of c.in-Ok.table; doubt = None } in
    subst (λ s. StartsBook g.E.Extent.seen s new (Ok (c.is_behind-found.result, c.in-Ok.heard))) c.self.view_is
    (starts_ok g.E.Extent.seen c.self.inside.vid c.self.inside.shape c.self.inside.log c.start_all.new.log (part_of c.self.inside.table) (part_of c.self.inside.table) c.self.inside.doubt c.self.inside.is_shut
    (λ (found : Table × HeardMemory). part_of found.0) (c.in-Ok.table, c.in-Ok.heard) c.is_behind-found.result (c.is_behind-found.ensures ∙ ap (λ o. is_behind o c.self.inside.doubt) c.end.ensures.end)
    c.in-Ok.heard c.in-Ok.ensures.counts c.in-Ok.ensures.sound.1 c.in-Ok.ensures.told)

pub returns-in-Err-clause-starts : goal.returns-in-Err-clause-starts
returns-in-Err-clause-starts g c =
    let new : BookOver g.row.E.Denot = record { vid = c.self.inside.vid; shape = c.self.inside.shape; log = record { file = c.start_all.new.log.file; end = end_unless c.shut_after-self-inside.result c.start_all.new.log.end }; part = part_of c.self.inside.table; doubt = c.self.inside.doubt } in
    let flag : c.shut_after-self-inside.result ≡ shut_after c.in-Err.fault (end_unless c.self.inside.is_shut c.self.inside.log.end) c.start_all.new.log.end =
    c.shut_after-self-inside.ensures ∙ ap (λ o. shut_after c.in-Err.fault o c.end-in-Err.result) (c.end-was.ensures ∙ ap (λ s. s.log.end) (sym c.self.view_is)) ∙ ap (λ o. shut_after c.in-Err.fault (end_unless c.self.inside.is_shut c.self.inside.log.end) o) c.end-in-Err.ensures.end in
    subst (λ s. StartsBook g.E.Extent.seen s new (Err c.in-Err.fault)) c.self.view_is
    (starts_err g.E.Extent.seen c.self.inside.vid c.self.inside.shape c.self.inside.log c.start_all.new.log (part_of c.self.inside.table) (part_of c.self.inside.table) c.self.inside.doubt c.self.inside.is_shut
    (λ (found : Table × HeardMemory). part_of found.0) c.in-Err.fault c.shut_after-self-inside.result flag c.in-Err.ensures.named c.in-Err.ensures.counts c.in-Err.ensures.told)
