use Rattle.std.proofs.Common.{◌∙◌, sym, ap, subst}
use Rattle.volume_entry.specs.Book.{BookOver}
use Rattle.volume_entry.specs.Granting.{AreWithinLast}
use Rattle.volume_entry.proofs.book.Book.grants_of.Goals as goal

pub grants_of-requires : goal.grants_of-requires
grants_of-requires g c =
    subst (λ greatest. AreWithinLast greatest c.args.targets.now) (sym (c.deref.ensures.value ∙ ap (λ (s : BookOver g.row.E.Denot). s.part.greatest) c.self.view_is)) c.requires
