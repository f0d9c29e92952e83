use Rattle.std.proofs.Common.{◌≡◌, ◌∙◌, sym, ap, List}
use Rattle.std.proofs.lemmas.List.{at_drop_all}
use Rattle.std.specs.Prelude.{◌==◌}
use Rattle.unit_id.specs.Lists.{any}
use Rattle.volume_entry.specs.Manager.{Transfer}
use Rattle.volume_entry.proofs.Walks.{moves-hit, moves-skip}
use Rattle.volume_entry.proofs.legal.moves_index.Goals as goal

pub returns-then-transfer-index : goal.returns-then-transfer-index
returns-then-transfer-index c =
    let item = c.transfer-item.result in
    let is : item.index ≡ c.args.index = ap (λ (t : Transfer). t.index) (sym c.transfer.view_is) ∙ c.if-transfer-index.true in
    sym (c.loop-transfer.invariant ∙ moves-hit c.args.transfers.now c.loop-transfer.transfer-index item c.args.index c.loop-transfer-test.true c.transfer-item.is is)

pub loop-transfer-preserved : goal.loop-transfer-preserved
loop-transfer-preserved c =
    let item = c.transfer-item.result in
    let not : item.index ≡ c.args.index → ⊥ = λ e. c.if-transfer-index.false (ap (λ (t : Transfer). t.index) c.transfer.view_is ∙ e) in
    c.loop-transfer.invariant ∙ moves-skip c.args.transfers.now c.loop-transfer.transfer-index item c.args.index c.loop-transfer-test.true c.transfer-item.is not

pub returns : goal.returns
returns c =
    sym (c.loop-transfer.invariant ∙ at_drop_all (λ (us : List Transfer). any (λ (t : Transfer). t.index == c.args.index) us) c.args.transfers.now c.loop-transfer.transfer-index c.loop-transfer-test.false)
