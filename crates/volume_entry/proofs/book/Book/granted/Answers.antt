use Rattle.std.proofs.Common.{◌∙◌, sym, ap, subst, false}
use Rattle.volume_entry.specs.View.{moves_shown}
use Rattle.volume_entry.specs.TableParts.{part_of, shape_of}
use Rattle.volume_entry.specs.Book.{BookOver, AreMovesNamed}
use Rattle.volume_entry.specs.Entry.{is_broken}
use Rattle.volume_entry.specs.Places.{AreMoves}
use Rattle.volume_entry.proofs.ShownPlaces.{places_granted}
use Rattle.volume_entry.proofs.book.Book.granted.Goals as goal

pub moves_shown-requires-clause-named : goal.moves_shown-requires-clause-named
moves_shown-requires-clause-named g c = subst AreMovesNamed (sym c.held.ensures) c.self.invariant.moves_named

pub returns-clause-places : goal.returns-clause-places
returns-clause-places g c =
    let inside = c.self.inside in
    subst (λ (s : BookOver g.row.E.Denot). AreMoves s.vid (shape_of s.shape) c.moves_shown.result) c.self.view_is
    (subst (AreMoves inside.vid (shape_of inside.shape)) (sym (c.moves_shown.ensures ∙ ap (moves_shown inside.vid (is_broken c.args.broken.now) false) c.held.ensures))
    (places_granted inside.vid (shape_of inside.shape) c.args.broken.now (part_of inside.table) c.self.invariant.placed))
