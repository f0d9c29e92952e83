use Rattle.std.proofs.Common.{◌∙◌, sym, subst}
use Rattle.volume_world.specs.PutBook.{Books}
use Rattle.volume_world.specs.World.{WorldOver}
use Rattle.volume_world.proofs.StepPasses.{ask_passes}
use Rattle.volume_world.proofs.parts.Parts.ask.Goals as goal

pub returns : goal.returns
returns g c =
    ask_passes g.H.Shelf.seen g.H.File.Extent.seen c.args.self.now c.note.new.self c.args.bid c.requires.sound c.requires.open c.requires.fits
    (λ total puts books. sym (c.is_begun.ensures total puts (subst (λ (s : WorldOver g.row.H.Denot g.row.H-File.Denot). Books total s.puts.puts puts) (sym c.self.view_is) books))
    ∙ c.if-is_begun.false)
    c.note.ensures.noted c.note.ensures.rest
