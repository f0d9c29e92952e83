use Rattle.std.proofs.Common.{◌∙◌, ap}
use Rattle.volume_entry.specs.HeardMemory.{KeptMarks, has_mark}
use Rattle.volume_entry.proofs.MarkSets.{keys_any}
use Rattle.volume_entry.proofs.heard_marks.HeardMarks.has.Goals as goal

pub returns : goal.returns
returns c =
    c.contains.ensures
    ∙ keys_any c.self.inside.kept.keys (record { bid = c.args.bid; index = c.args.index; epoch = c.args.epoch })
    ∙ ap (λ (s : KeptMarks). has_mark s.marks c.args.bid c.args.index c.args.epoch) c.self.view_is
