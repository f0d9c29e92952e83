use Rattle.std.proofs.Common.{◌∙◌, sym, ap}
use Rattle.volume_entry.specs.Manager.{Lock, transfers_of}
use Rattle.volume_entry.proofs.table.Table.held.Goals as goal

pub returns-in-Some : goal.returns-in-Some
returns-in-Some c = c.deref.ensures.value ∙ ap (λ (l : Lock). l.transfers) c.lock.view_is ∙ ap transfers_of (sym c.in-Some.is)
