use Rattle.std.proofs.Common.{◌∙◌, sym, ap, subst}
use Rattle.volume_entry.specs.Manager.{transfers_of}
use Rattle.volume_entry.specs.View.{homes_shown}
use Rattle.volume_entry.specs.ShownView.{lock_shown}
use Rattle.volume_entry.specs.TableParts.{part_of, shape_of}
use Rattle.volume_entry.specs.Book.{BookOver, AreNamed, AreMovesNamed}
use Rattle.volume_entry.specs.Entry.{is_broken}
use Rattle.volume_entry.specs.Places.{AreHomes, AreHeldMoves, ShowsPlaces}
use Rattle.volume_entry.specs.declared.view.View.{View}
use Rattle.volume_entry.proofs.ShownPlaces.{homes_placed, held_placed}
use Rattle.volume_entry.proofs.book.Book.shown.Goals as goal

pub lock_shown-held-requires-clause-named : goal.lock_shown-held-requires-clause-named
lock_shown-held-requires-clause-named g c = subst (λ o. AreMovesNamed (transfers_of o)) (sym c.as_ref.ensures.value) c.self.invariant.moves_named

pub homes_shown-units-requires-clause-named : goal.homes_shown-units-requires-clause-named
homes_shown-units-requires-clause-named g c = subst AreNamed (sym c.deref.ensures.value) c.self.invariant.named

pub returns-clause-places : goal.returns-clause-places
returns-clause-places g c =
    let inside = c.self.inside in
    let part = part_of inside.table in
    let is = c.self.invariant in
    let shape = shape_of inside.shape in
    let broken = is_broken c.args.broken.now in
    let view : View = record { now = c.args.now; version = inside.table.version; lease = inside.table.lease_end; held = c.lock_shown-held.result; units = c.homes_shown-units.result } in
    subst (λ (s : BookOver g.row.E.Denot). ShowsPlaces s.vid (shape_of s.shape) view) c.self.view_is
    (record {
      homes = subst (AreHomes inside.vid shape) (sym (c.homes_shown-units.ensures ∙ ap (homes_shown inside.vid 0 broken) c.deref.ensures.value)) (homes_placed inside.vid shape broken part.homes is.homes is.placed.homes);
      moves = subst (AreHeldMoves inside.vid shape) (sym (c.lock_shown-held.ensures ∙ ap (lock_shown inside.vid broken) c.as_ref.ensures.value)) (held_placed inside.vid shape broken part.lock is.placed.moves is.placed.most);
    })
