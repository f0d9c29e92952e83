use Rattle.std.proofs.Common.{◌∙◌, ap, refl, get_or, reverse}
use Rattle.std.proofs.lemmas.List.{take_all}
use Rattle.volume_entry.specs.ManagerStep.{targeted}
use Rattle.volume_entry.proofs.LockTargets.{targeted_more}
use Rattle.volume_entry.proofs.lock_refusal.target_on.Goals as goal

pub loop-target-preserved : goal.loop-target-preserved
loop-target-preserved c =
    targeted_more c.args.earlier.now c.loop-target.target-index (get_or c.args.earlier.now c.loop-target.target-index (record { index = 0; disk = 0 })) (record { index = 0; disk = 0 }) c.loop-target-test.true refl c.args.disk c.loop-target.found c.or_target-found.result c.loop-target.invariant c.or_target-found.ensures

pub returns : goal.returns
returns c = c.loop-target.invariant ∙ ap (λ ts. targeted (reverse ts) c.args.disk) (take_all c.loop-target.target-index c.args.earlier.now c.loop-target-test.false)
