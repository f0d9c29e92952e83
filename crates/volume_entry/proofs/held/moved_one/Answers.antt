use Rattle.std.proofs.Common.{◌≡◌, ◌∙◌, sym, ap}
use Rattle.volume_entry.specs.Manager.{Transfer}
use Rattle.volume_entry.proofs.TableLists.{moved_one-hit, moved_one-skip}
use Rattle.volume_entry.proofs.held.moved_one.Goals as goal

pub returns-then-from-index : goal.returns-then-from-index
returns-then-from-index c =
    let index : c.transfer-item.result.index ≡ c.args.index = ap (λ (t : Transfer). t.index) (sym c.transfer.view_is) ∙ sym c.from.ensures ∙ c.if-from-index.true in
    ap (λ (t : Transfer). t.dest) c.transfer.view_is
    ∙ sym (c.loop-transfer.invariant ∙ moved_one-hit c.args.transfers.now c.loop-transfer.transfer-index c.transfer-item.result c.args.index c.args.home c.loop-transfer-test.true c.transfer-item.is index)

pub loop-transfer-preserved : goal.loop-transfer-preserved
loop-transfer-preserved c =
    let index : c.transfer-item.result.index ≡ c.args.index → ⊥ = λ e. c.if-from-index.false (c.from.ensures ∙ ap (λ (t : Transfer). t.index) c.transfer.view_is ∙ e) in
    c.loop-transfer.invariant ∙ moved_one-skip c.args.transfers.now c.loop-transfer.transfer-index c.transfer-item.result c.args.index c.args.home c.loop-transfer-test.true c.transfer-item.is index
