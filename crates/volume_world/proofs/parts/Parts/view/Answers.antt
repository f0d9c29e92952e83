use Rattle.std.proofs.Common.{subst, Ok}
use Rattle.volume_entry.specs.Entry.{Looks}
use Rattle.volume_entry.specs.Places.{ShowsPlaces}
use Rattle.volume_entry.specs.TableParts.{shape_of}
use Rattle.volume_world.specs.World.{WorldOver}
use Rattle.volume_world.proofs.ShownViews.{view_shows}
use Rattle.volume_world.proofs.parts.Parts.view.Goals as goal

pub returns : goal.returns
returns g c = record {
  looks = subst (λ (world : WorldOver g.row.H.Denot g.row.H-File.Denot). Looks g.H.File.Extent.seen world.time world.entry (Ok c.in-Ok.view)) c.self.view_is c.in-Ok.ensures.looks;
  shows = view_shows g.H.Shelf.seen g.H.File.Extent.seen c.args.self.now c.requires.sound.one c.in-Ok.view
      (subst (λ (world : WorldOver g.row.H.Denot g.row.H-File.Denot). ShowsPlaces world.entry.book.vid (shape_of world.entry.book.shape) c.in-Ok.view) c.self.view_is c.in-Ok.ensures.places);
}
