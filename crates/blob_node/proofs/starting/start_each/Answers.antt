-- One unit more is started.
use Rattle.std.proofs.Common.{get_or, refl}
use Rattle.blob_node.proofs.Starts.{leads_next}
use Rattle.blob_node.proofs.starting.start_each.Goals as goal

pub words-preserved : goal.words-preserved
words-preserved g c =
    leads_next g.E.Extent.seen c.args.words.now c.args.units.now c.args.settled.now.items c.words.word-index (get_or c.args.words.now c.words.word-index 0) 0 c.words-test.true refl
    c.words.units c.words.settled.items c.words.invariant c.start_next.new.units c.start_next.new.settled.items c.in_ok-start_next.ensures
