use Rattle.std.proofs.Common.{◌∙◌, sym, refl, get_or, reverse, take}
use Rattle.std.proofs.lemmas.List.{at_drop_all}
use Rattle.volume_entry.specs.ManagerStep.{first_held}
use Rattle.volume_entry.proofs.LockTargets.{held_hit, held_skip}
use Rattle.volume_entry.proofs.lock_refusal.first_held.Goals as goal

pub returns-then-is_some : goal.returns-then-is_some
returns-then-is_some c =
    let ts = c.args.targets.now in
    let k = c.loop-place.place in
    sym (c.loop-place.invariant ∙ held_hit ts k (get_or ts k (record { index = 0; disk = 0 })) (record { index = 0; disk = 0 }) c.loop-place-test.true refl c.args.homes.now c.taken_by-held.result c.taken_by-held.ensures (sym c.is_some.ensures ∙ c.if-is_some.true))

pub loop-place-preserved : goal.loop-place-preserved
loop-place-preserved c =
    let ts = c.args.targets.now in
    let k = c.loop-place.place in
    c.loop-place.invariant ∙ held_skip ts k (get_or ts k (record { index = 0; disk = 0 })) (record { index = 0; disk = 0 }) c.loop-place-test.true refl c.args.homes.now c.taken_by-held.result c.taken_by-held.ensures (sym c.is_some.ensures ∙ c.if-is_some.false)

pub returns : goal.returns
returns c =
    sym (c.loop-place.invariant ∙ at_drop_all (first_held c.args.homes.now (reverse (take c.loop-place.place c.args.targets.now))) c.args.targets.now c.loop-place.place c.loop-place-test.false)
