use Rattle.std.proofs.Common.{◌<◌, ◌≤◌, ◌∙◌, ap, sym, subst, length, take, List, [], ◌∷◌, ◌++◌, false, arith}
use Rattle.unit_id.specs.declared.homes.Home.{Home}
use Rattle.migrate_task.specs.AdvanceCall.{units_in}
use Rattle.migrate_task.proofs.WorkLemmas.{units_more, units_all, units_few}
use Rattle.migrate_task.proofs.swapping.units_in.Goals as goal

pub push-requires : goal.push-requires
push-requires c =
    let few : length (units_in (take c.journeys.journey-index c.args.journeys.now)) ≤ c.journeys.journey-index = units_few c.args.journeys.now c.journeys.journey-index in
    let within : c.journeys.journey-index < length c.args.journeys.now = c.journeys-test.true in
    let most : length c.args.journeys.now ≤ 9 = c.requires in
    subst (λ (units : List Home). length units < 27) (sym c.journeys.invariant) (omega arith)

pub journeys-preserved : goal.journeys-preserved
journeys-preserved c =
    c.push.ensures ∙ ap (λ (units : List Home). units ++ record (c.journey-item.result.dest) { broken = false } ∷ []) c.journeys.invariant
    ∙ sym (units_more c.args.journeys.now c.journeys.journey-index c.journey-item.result c.journeys-test.true c.journey-item.is)

pub returns : goal.returns
returns c = c.journeys.invariant ∙ units_all c.args.journeys.now c.journeys.journey-index c.journeys-test.false
