use Rattle.std.proofs.Common.{◌∙◌, sym, ap, false, get_or}
use Rattle.unit_id.specs.Lists.{count_below}
use Rattle.code_mode.specs.VolumeShape.{volume_shape}
use Rattle.volume_world.proofs.PutBooks.{ends_unopened, ends_late, ends_short, ends_acked}
use Rattle.volume_world.proofs.puts.PutState.close.Goals as goal

pub returns-then-not-is_open-clause-ends : goal.returns-then-not-is_open-clause-ends
returns-then-not-is_open-clause-ends c = λ disks bid s now stands is.
    ends_unopened (volume_shape c.args.mode disks) bid s _ stands (sym c.is_open.ensures ∙ c.if-not-is_open.true)

pub returns-then-self-now-clause-ends : goal.returns-then-self-now-clause-ends
returns-then-self-now-clause-ends c = λ disks bid s now stands is.
    ends_late (volume_shape c.args.mode disks) bid c.args.now s c.args.self.now now stands is (sym c.is_open.ensures ∙ c.if-not-is_open.false) c.if-self-now.true

pub returns-then-not-is_quorum-clause-ends : goal.returns-then-not-is_quorum-clause-ends
returns-then-not-is_quorum-clause-ends c = λ disks bid s now stands is.
    ends_short (volume_shape c.args.mode disks) bid c.args.now c.count_set-accepted.result s c.args.self.now now stands is (sym c.is_open.ensures ∙ c.if-not-is_open.false) c.if-self-now.false
    (c.count_set-accepted.ensures ∙ ap (λ n. count_below n (λ i. get_or c.args.self.now.accepted i false)) c.total.ensures.value)
    (c.is_quorum.ensures.few c.if-not-is_quorum.true)

pub returns-clause-ends : goal.returns-clause-ends
returns-clause-ends c = λ disks bid s now stands is.
    ends_acked (volume_shape c.args.mode disks) bid c.args.now c.count_set-accepted.result s c.args.self.now now stands is (sym c.is_open.ensures ∙ c.if-not-is_open.false) c.if-self-now.false
    (c.count_set-accepted.ensures ∙ ap (λ n. count_below n (λ i. get_or c.args.self.now.accepted i false)) c.total.ensures.value)
    (c.is_quorum.ensures.enough c.if-not-is_quorum.false)
