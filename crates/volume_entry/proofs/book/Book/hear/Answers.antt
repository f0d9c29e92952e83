use Rattle.std.proofs.Common.{◌∙◌, sym, ap}
use Rattle.volume_entry.specs.Book.{BookOver}
use Rattle.volume_entry.proofs.book.Book.hear.Goals as goal

pub returns-clause-heard : goal.returns-clause-heard
returns-clause-heard g c = λ total m homes lock.
    c.in_ok-hear.ensures.heard total m
    (homes ∙ ap (λ (s : BookOver g.row.E.Denot). s.part.homes) (sym c.self.view_is) ∙ sym c.as_slice-homes.ensures.value)
    (lock ∙ ap (λ (s : BookOver g.row.E.Denot). s.part.lock) (sym c.self.view_is) ∙ sym c.as_ref-lock.ensures.value)
