use Rattle.std.proofs.Common.{subst, sym, ap, map, take, ◌+◌}
use Rattle.volume_entry.specs.Manager.{Grant}
use Rattle.volume_entry.specs.HeardCalls.{AreFresh, IsFresh}
use Rattle.volume_entry.proofs.HeardSteps.{fresh_more}
use Rattle.volume_entry.proofs.heard.moves_for.Goals as goal

pub loop-grant-preserved : goal.loop-grant-preserved
loop-grant-preserved c =
    let item = c.grant-item.result in
    let fresh : IsFresh item.index c.of.result = subst (λ i. IsFresh i c.of.result) (ap (λ (t : Grant). t.index) c.grant.view_is) c.of.ensures in
    subst (AreFresh (map (λ (t : Grant). t.index) (take (c.loop-grant.grant-index + 1) c.args.grants.now))) (sym c.in_ok-push.ensures.items)
    (fresh_more (λ (t : Grant). t.index) c.args.grants.now c.loop-grant.grant-index item item c.loop-grant.moves.items c.of.result c.loop-grant-test.true c.grant-item.is c.loop-grant.invariant fresh)
