use Rattle.std.proofs.Common.{◌≡◌, ◌<◌}
use Rattle.volume_entry.specs.Manager.{Grant}
use Rattle.volume_entry.proofs.Walks.{all_more, all_end, in_at}
use Rattle.volume_entry.proofs.legal.is_before.Goals as goal

pub returns-then-not-is_before_one : goal.returns-then-not-is_before_one
returns-then-not-is_before_one c = λ all.
    c.if-not-is_before_one.ensures (all c.other-item.result (in_at c.args.others.now c.loop-other.other-index c.other-item.result c.loop-other-test.true c.other-item.is))

pub loop-other-preserved : goal.loop-other-preserved
loop-other-preserved c =
    all_more (λ (u : Grant). (c.args.first.index < u.index) × (c.args.first.dest.disk ≡ u.dest.disk → ⊥)) c.args.others.now c.loop-other.other-index c.other-item.result
    c.loop-other-test.true c.other-item.is c.loop-other.invariant c.if-not-is_before_one.ensures

pub returns : goal.returns
returns c =
    all_end (λ (u : Grant). (c.args.first.index < u.index) × (c.args.first.dest.disk ≡ u.dest.disk → ⊥)) c.args.others.now c.loop-other.other-index c.loop-other-test.false c.loop-other.invariant
