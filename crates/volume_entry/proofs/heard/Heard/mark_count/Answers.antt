use Rattle.std.proofs.Common.{◌∙◌, ap}
use Rattle.unit_id.specs.Lists.{count_below}
use Rattle.volume_entry.specs.HeardCounts.{marks_current}
use Rattle.volume_entry.specs.HeardMemory.{HeardMemory}
use Rattle.volume_entry.proofs.HeardTallies.{marks_tell}
use Rattle.volume_entry.proofs.heard.Heard.mark_count.Goals as goal

pub returns : goal.returns
returns c size m homes told =
    c.marked_count.ensures ∙ ap (λ (h : HeardMemory). count_below c.args.total (marks_current h.marks.marks c.args.homes.now c.args.bid)) c.self.view_is
    ∙ marks_tell c.args.total m c.args.self.now.marks.marks c.args.homes.now c.args.bid homes told.marks
