use Rattle.std.proofs.Common.{◌∙◌, ap}
use Rattle.std.proofs.lemmas.List.{take_all}
use Rattle.volume_entry.specs.ManagerStep.{grants_of}
use Rattle.volume_entry.proofs.LockTargets.{grants_more, grant_within}
use Rattle.volume_entry.proofs.granting.grants_of.Goals as goal

pub grant_of-requires : goal.grant_of-requires
grant_of-requires c = grant_within c.args.greatest.now c.args.targets.now c.loop-target.target-index (record { index = 0; disk = 0 }) c.loop-target-test.true c.requires

pub loop-target-preserved : goal.loop-target-preserved
loop-target-preserved c =
    grants_more c.args.greatest.now c.args.targets.now c.loop-target.target-index (record { index = 0; disk = 0 }) c.loop-target.grants.items c.push.new.self.items c.grant_of.result c.loop-target-test.true
    c.loop-target.invariant c.grant_of.ensures c.in_ok-push.ensures.items

pub returns : goal.returns
returns c = c.loop-target.invariant ∙ ap (grants_of c.args.greatest.now) (take_all c.loop-target.target-index c.args.targets.now c.loop-target-test.false)
