use Rattle.volume_world.proofs.StepPasses.{step_takes}
use Rattle.volume_world.proofs.parts.Parts.manage.Goals as goal

pub returns : goal.returns
returns g c =
    step_takes g.H.Shelf.seen g.H.File.Extent.seen c.args.self.now c.step_entry-answer.new.self c.note_step.new.self c.args.event c.requires.sound c.requires.open c.requires.fits
    c.requires.tested c.step_entry-answer.ensures.only c.note_step.ensures.rest c.step_entry-answer.result c.note_step.result c.step_entry-answer.ensures.steps c.note_step.ensures.reply
    c.note_step.ensures.noted c.note_step.ensures.none
