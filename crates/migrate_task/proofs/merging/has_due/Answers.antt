use Rattle.std.proofs.Common.{sym, ◌∙◌, ap}
use Rattle.migrate_task.specs.declared.copying.Due.{Due}
use Rattle.migrate_task.specs.Work.{has_due}
use Rattle.migrate_task.proofs.MergeLemmas.{mark_same, row_same}
use Rattle.migrate_task.proofs.merging.has_due.Goals as goal

pub returns-in-Mark : goal.returns-in-Mark
returns-in-Mark c = λ listings h.
    c.has_mark.ensures ∙ mark_same listings c.args.dests.now c.args.bid c.args.index h ∙ ap (λ (due : Due). has_due listings due c.args.bid c.args.index) (sym c.in-Mark.is)

pub returns-in-Copy : goal.returns-in-Copy
returns-in-Copy c = λ listings h.
    c.has_row.ensures ∙ row_same listings c.args.dests.now c.args.bid c.args.index h ∙ ap (λ (due : Due). has_due listings due c.args.bid c.args.index) (sym c.in-Copy.is)
