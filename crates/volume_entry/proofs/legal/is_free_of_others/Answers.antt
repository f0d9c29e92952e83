use Rattle.std.proofs.Common.{◌≡◌}
use Rattle.volume_entry.specs.Manager.{Transfer}
use Rattle.volume_entry.proofs.Walks.{all_more, all_end, in_at, same_unless}
use Rattle.volume_entry.proofs.legal.is_free_of_others.Goals as goal

pub returns-then-leads_elsewhere : goal.returns-then-leads_elsewhere
returns-then-leads_elsewhere c = λ all.
    let item = c.transfer-item.result in
    let found : (item.dest.disk ≡ c.args.grant.dest.disk) × (item.index ≡ c.args.grant.index → ⊥) = c.if-leads_elsewhere.ensures in
    found.1 (all item (in_at c.args.transfers.now c.loop-transfer.transfer-index item c.loop-transfer-test.true c.transfer-item.is) found.0)

pub loop-transfer-preserved : goal.loop-transfer-preserved
loop-transfer-preserved c =
    let item = c.transfer-item.result in
    all_more (λ (t : Transfer). t.dest.disk ≡ c.args.grant.dest.disk → t.index ≡ c.args.grant.index) c.args.transfers.now c.loop-transfer.transfer-index item
    c.loop-transfer-test.true c.transfer-item.is c.loop-transfer.invariant
    (λ e. same_unless item.index c.args.grant.index (λ other. c.if-leads_elsewhere.ensures (e, other)))

pub returns : goal.returns
returns c =
    all_end (λ (t : Transfer). t.dest.disk ≡ c.args.grant.dest.disk → t.index ≡ c.args.grant.index) c.args.transfers.now c.loop-transfer.transfer-index c.loop-transfer-test.false c.loop-transfer.invariant
