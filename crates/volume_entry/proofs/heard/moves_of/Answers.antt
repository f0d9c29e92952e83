use Rattle.std.proofs.Common.{subst, sym, ap, map, take, ◌+◌}
use Rattle.volume_entry.specs.Manager.{Transfer}
use Rattle.volume_entry.specs.HeardCalls.{AreFresh, IsFresh}
use Rattle.volume_entry.proofs.HeardSteps.{fresh_more}
use Rattle.volume_entry.proofs.heard.moves_of.Goals as goal

pub loop-transfer-preserved : goal.loop-transfer-preserved
loop-transfer-preserved c =
    let item = c.transfer-item.result in
    let fresh : IsFresh item.index c.of.result = subst (λ i. IsFresh i c.of.result) (ap (λ (t : Transfer). t.index) c.transfer.view_is) c.of.ensures in
    subst (AreFresh (map (λ (t : Transfer). t.index) (take (c.loop-transfer.transfer-index + 1) c.args.transfers.now))) (sym c.in_ok-push.ensures.items)
    (fresh_more (λ (t : Transfer). t.index) c.args.transfers.now c.loop-transfer.transfer-index item item c.loop-transfer.moves.items c.of.result c.loop-transfer-test.true c.transfer-item.is c.loop-transfer.invariant fresh)
