use Rattle.std.proofs.Common.{ap}
use Rattle.volume_entry.specs.HeardMemory.{KeptMarks}
use Rattle.volume_entry.proofs.MarkSets.{mark_added}
use Rattle.volume_entry.proofs.heard_marks.HeardMarks.add.Goals as goal

pub returns-clause-added : goal.returns-clause-added
returns-clause-added c =
    mark_added c.self.inside.kept.keys c.insert.new.self.keys (record { bid = c.args.bid; index = c.args.index; epoch = c.args.epoch }) c.args.self.now.marks
    (ap (λ (s : KeptMarks). s.marks) c.self.view_is) c.in_ok-insert.ensures.keys
