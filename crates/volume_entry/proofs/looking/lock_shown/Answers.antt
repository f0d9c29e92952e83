use Rattle.std.proofs.Common.{◌≡◌, ◌∙◌, sym, ap, subst}
use Rattle.std.specs.Prelude.{option_copied}
use Rattle.volume_entry.specs.Manager.{Lock, transfers_of}
use Rattle.volume_entry.specs.Book.{AreMovesNamed}
use Rattle.volume_entry.proofs.looking.lock_shown.Goals as goal

pub moves_shown-requires-clause-named : goal.moves_shown-requires-clause-named
moves_shown-requires-clause-named c =
    let same : transfers_of (option_copied c.args.lock) ≡ c.deref.result.now = ap (λ o. transfers_of (option_copied o)) c.in_ok-lock.was ∙ ap (λ (l : Lock). l.transfers) (sym c.lock.view_is) ∙ sym c.deref.ensures.value in
    subst AreMovesNamed same c.requires.named
