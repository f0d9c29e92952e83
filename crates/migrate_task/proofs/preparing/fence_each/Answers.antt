use Rattle.std.proofs.Common.{◌+◌, [], Ok, Err, refl, sym, ◌∙◌, drop, subst, rules}
use Rattle.volume_world.specs.Way.{Origin}
use Rattle.migrate_task.specs.AdvanceCall.{task_call, fencing}
use Rattle.migrate_task.specs.TaskParts.{IsWorkOn, work_of}
use Rattle.migrate_task.proofs.TaskLemmas.{proceeds_nowhere, fails_on, next_part, all_parts}
use Rattle.migrate_task.proofs.WorkLemmas.{old_there}
use Rattle.migrate_task.proofs.preparing.fence_each.Goals as goal

pub units-init : goal.units-init
units-init g c = record {
  origin = refl;
  work = c.requires.work;
  gone = λ mode task. proceeds_nowhere (task_call mode task) _ (fencing (work_of c.args.work.now) c.args.units.now);
}

pub fence-requires-clause-unit : goal.fence-requires-clause-unit
fence-requires-clause-unit g c =
    old_there _ _ c.args.units.now c.units.journey-index c.journey-item.result c.units.invariant.origin c.requires.units c.units-test.true c.journey-item.is

pub fence-requires-clause-work : goal.fence-requires-clause-work
fence-requires-clause-work g c = subst (λ (o : Origin). IsWorkOn o (work_of c.units.work)) (sym c.units.invariant.origin) c.units.invariant.work

pub returns-in_err-fence-clause-goes : goal.returns-in_err-fence-clause-goes
unfolding fencing
returns-in_err-fence-clause-goes g c = λ mode task.
    let from = fencing (work_of c.args.work.now) c.args.units.now in
    let left = drop (c.units.journey-index + 1) c.args.units.now in
    let halt = c.in_err-fence.field-0.0 in
    let next = work_of c.fence.new.work in
    fails_on {T = Unit {0}} {U = Unit {0}} (task_call mode task) _ _ from halt c.from_residual.result (λ _. fencing next left) (λ _. fencing next []) (search rules)
    (next_part {T = Unit {0}} (task_call mode task) _ _ _ from (fencing (work_of c.units.work)) c.args.units.now c.units.journey-index c.journey-item.result (Err halt)
    (λ _. fencing next left) c.units-test.true c.journey-item.is (c.units.invariant.gone mode task) (c.in_err-fence.ensures.goes mode task left))

pub returns-in_err-fence-clause-work : goal.returns-in_err-fence-clause-work
returns-in_err-fence-clause-work g c = subst (λ (o : Origin). IsWorkOn o (work_of c.fence.new.work)) c.units.invariant.origin c.in_err-fence.ensures.work

pub units-preserved : goal.units-preserved
unfolding fencing
units-preserved g c = record {
  origin = c.in_ok-fence.ensures.origin ∙ c.units.invariant.origin;
  work = subst (λ (o : Origin). IsWorkOn o (work_of c.fence.new.work)) c.units.invariant.origin c.in_ok-fence.ensures.work;
  gone = λ mode task.
      let from = fencing (work_of c.args.work.now) c.args.units.now in
      let left = drop (c.units.journey-index + 1) c.args.units.now in
      next_part {T = Unit {0}} (task_call mode task) _ _ _ from (fencing (work_of c.units.work)) c.args.units.now c.units.journey-index c.journey-item.result (Ok c.in_ok-fence.field-0)
      (λ _. fencing (work_of c.fence.new.work) left) c.units-test.true c.journey-item.is (c.units.invariant.gone mode task) (c.in_ok-fence.ensures.goes mode task left);
}

pub returns-clause-goes : goal.returns-clause-goes
returns-clause-goes g c = λ mode task.
    all_parts (task_call mode task) _ _ (fencing (work_of c.args.work.now) c.args.units.now) (fencing (work_of c.units.work)) c.args.units.now c.units.journey-index
    c.units-test.false (c.units.invariant.gone mode task)
