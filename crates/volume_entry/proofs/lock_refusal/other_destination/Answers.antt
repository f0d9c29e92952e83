use Rattle.std.proofs.Common.{◌∙◌, sym, ap}
use Rattle.std.specs.Prelude.{Some}
use Rattle.std.proofs.lemmas.List.{at_drop_all}
use Rattle.volume_entry.specs.ManagerStep.{other_destination}
use Rattle.volume_entry.proofs.LockTargets.{other_hit, other_skip}
use Rattle.volume_entry.proofs.lock_refusal.other_destination.Goals as goal

pub returns-then-leads_elsewhere : goal.returns-then-leads_elsewhere
returns-then-leads_elsewhere c =
    ap Some c.index_of.ensures
    ∙ sym (c.loop-transfer.invariant ∙ other_hit c.args.transfers.now c.loop-transfer.transfer-index c.transfer-item.result c.args.index c.args.disk c.loop-transfer-test.true c.transfer-item.is (sym c.leads_elsewhere.ensures ∙ c.if-leads_elsewhere.true))

pub loop-transfer-preserved : goal.loop-transfer-preserved
loop-transfer-preserved c =
    c.loop-transfer.invariant ∙ other_skip c.args.transfers.now c.loop-transfer.transfer-index c.transfer-item.result c.args.index c.args.disk c.loop-transfer-test.true c.transfer-item.is (sym c.leads_elsewhere.ensures ∙ c.if-leads_elsewhere.false)

pub returns : goal.returns
returns c =
    sym (c.loop-transfer.invariant ∙ at_drop_all (λ ts. other_destination ts c.args.index c.args.disk) c.args.transfers.now c.loop-transfer.transfer-index c.loop-transfer-test.false)
