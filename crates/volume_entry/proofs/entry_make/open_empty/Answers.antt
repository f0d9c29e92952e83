use Rattle.std.proofs.Common.{◌∙◌, sym, ap, subst, Some, Err}
use Rattle.volume_entry.specs.Making.{Opens}
use Rattle.volume_entry.proofs.EntryMade.{opens_err, opens_ok}
use Rattle.volume_entry.proofs.entry_make.open_empty.Goals as goal

pub returns-in-Err-clause-opens : goal.returns-in-Err-clause-opens
returns-in-Err-clause-opens g c =
    subst (λ why. Opens g.E.Extent.seen c.args.log.now c.start.new.self (Err why)) (sym c.fault_of.ensures)
    (opens_err g.E.Extent.seen c.args.log.now c.start.new.self c.requires c.in-Err.fault c.in-Err.ensures.answer c.in-Err.ensures.starts)

pub returns-clause-opens : goal.returns-clause-opens
returns-clause-opens g c =
    opens_ok g.E.Extent.seen c.args.log.now c.start.new.self c.requires c.in-Ok.ensures.starts (sym c.end.ensures.end ∙ c.is_at.ensures.0 c.if-not-is_at.false ∙ ap Some c.first-first.ensures)
