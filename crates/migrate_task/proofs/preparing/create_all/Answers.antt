use Rattle.std.proofs.Common.{◌+◌, [], Ok, Err, refl, ◌∙◌, drop, rules}
use Rattle.migrate_task.specs.AdvanceCall.{task_call, creating}
use Rattle.migrate_task.proofs.TaskLemmas.{proceeds_nowhere, fails_on, next_part, all_parts}
use Rattle.migrate_task.proofs.WorkLemmas.{dest_there}
use Rattle.migrate_task.proofs.preparing.create_all.Goals as goal

pub journeys-init : goal.journeys-init
journeys-init g c = record { origin = refl; gone = λ mode task work. proceeds_nowhere (task_call mode task) _ (creating work c.args.journeys.now) }

pub create-requires : goal.create-requires
create-requires g c =
    dest_there _ _ c.args.journeys.now c.journeys.journey-index c.journey-item.result c.journeys.invariant.origin c.requires c.journeys-test.true c.journey-item.is

pub returns-in_err-create-clause-goes : goal.returns-in_err-create-clause-goes
unfolding creating
returns-in_err-create-clause-goes g c = λ mode task work.
    let j = c.journey-item.result in
    let left = drop (c.journeys.journey-index + 1) c.args.journeys.now in
    let halt = c.in_err-create.field-0.0 in
    fails_on {T = Unit {0}} {U = Unit {0}} (task_call mode task) _ _ (creating work c.args.journeys.now) halt c.from_residual.result (λ _. creating work left) (λ _. creating work []) (search rules)
    (next_part {T = Unit {0}} (task_call mode task) _ _ _ (creating work c.args.journeys.now) (creating work) c.args.journeys.now c.journeys.journey-index j (Err halt) (λ _. creating work left)
    c.journeys-test.true c.journey-item.is (c.journeys.invariant.gone mode task work) (c.in_err-create.ensures.goes mode task work left))

pub journeys-preserved : goal.journeys-preserved
unfolding creating
journeys-preserved g c = record {
  origin = c.in_ok-create.ensures.origin ∙ c.journeys.invariant.origin;
  gone = λ mode task work.
      let j = c.journey-item.result in
      let left = drop (c.journeys.journey-index + 1) c.args.journeys.now in
      next_part {T = Unit {0}} (task_call mode task) _ _ _ (creating work c.args.journeys.now) (creating work) c.args.journeys.now c.journeys.journey-index j (Ok c.in_ok-create.field-0) (λ _. creating work left)
      c.journeys-test.true c.journey-item.is (c.journeys.invariant.gone mode task work) (c.in_ok-create.ensures.goes mode task work left);
}

pub returns-clause-goes : goal.returns-clause-goes
returns-clause-goes g c = λ mode task work.
    all_parts (task_call mode task) _ _ (creating work c.args.journeys.now) (creating work) c.args.journeys.now c.journeys.journey-index c.journeys-test.false (c.journeys.invariant.gone mode task work)
