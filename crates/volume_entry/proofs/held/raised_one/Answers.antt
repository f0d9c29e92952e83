use Rattle.std.proofs.Common.{◌≡◌, ◌∙◌, sym, ap}
use Rattle.volume_entry.specs.Manager.{Grant}
use Rattle.volume_entry.proofs.TableLists.{raised_one-hit, raised_one-skip}
use Rattle.volume_entry.proofs.held.raised_one.Goals as goal

pub returns-then-from-index : goal.returns-then-from-index
returns-then-from-index c =
    let index : c.grant-item.result.index ≡ c.args.index = ap (λ (t : Grant). t.index) (sym c.grant.view_is) ∙ sym c.from.ensures ∙ c.if-from-index.true in
    c.epoch_at.ensures ∙ ap (λ (t : Grant). t.dest.epoch) c.grant.view_is
    ∙ sym (c.loop-grant.invariant ∙ raised_one-hit c.args.grants.now c.loop-grant.grant-index c.grant-item.result c.args.index c.args.epoch c.loop-grant-test.true c.grant-item.is index)

pub loop-grant-preserved : goal.loop-grant-preserved
loop-grant-preserved c =
    let index : c.grant-item.result.index ≡ c.args.index → ⊥ = λ e. c.if-from-index.false (c.from.ensures ∙ ap (λ (t : Grant). t.index) c.grant.view_is ∙ e) in
    c.loop-grant.invariant ∙ raised_one-skip c.args.grants.now c.loop-grant.grant-index c.grant-item.result c.args.index c.args.epoch c.loop-grant-test.true c.grant-item.is index
