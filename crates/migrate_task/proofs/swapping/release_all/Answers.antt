use Rattle.std.proofs.Common.{◌+◌, List, Ok, Err, refl, sym, ◌∙◌, drop, subst, rules}
use Rattle.volume_world.specs.Way.{Origin}
use Rattle.volume_world.specs.Call.{Next}
use Rattle.migrate_task.specs.declared.work.Journey.{Journey}
use Rattle.migrate_task.specs.AdvanceCall.{TaskStage, task_call, releasing}
use Rattle.migrate_task.specs.TaskParts.{IsWorkOn, work_of}
use Rattle.migrate_task.proofs.TaskLemmas.{proceeds_nowhere, fails_on, next_part, all_parts}
use Rattle.migrate_task.proofs.WorkLemmas.{old_there}
use Rattle.migrate_task.proofs.swapping.release_all.Goals as goal

pub units-init : goal.units-init
units-init g c = record {
  origin = refl;
  work = c.requires.work;
  gone = λ mode task. proceeds_nowhere (task_call mode task) _ (Next.Go (releasing (work_of c.args.work.now) c.args.units.now));
}

pub release-requires-clause-unit : goal.release-requires-clause-unit
release-requires-clause-unit g c =
    old_there _ _ c.args.units.now c.units.journey-index c.journey-item.result c.units.invariant.origin c.requires.units c.units-test.true c.journey-item.is

pub release-requires-clause-work : goal.release-requires-clause-work
release-requires-clause-work g c = subst (λ (o : Origin). IsWorkOn o (work_of c.units.work)) (sym c.units.invariant.origin) c.units.invariant.work

pub returns-in_err-release-clause-goes : goal.returns-in_err-release-clause-goes
returns-in_err-release-clause-goes g c = λ mode task.
    let from = Next.Go (releasing (work_of c.args.work.now) c.args.units.now) in
    let left = drop (c.units.journey-index + 1) c.args.units.now in
    let halt = c.in_err-release.field-0.0 in
    let next = work_of c.release.new.work in
    fails_on {T = Unit {0}} {U = Unit {0}} (task_call mode task) _ _ from halt c.from_residual.result (λ _. Next.Go (releasing next left)) (λ _. Next.Go (TaskStage.Unlocking next)) (search rules)
    (next_part {T = Unit {0}} (task_call mode task) _ _ _ from (λ (js : List Journey). Next.Go (releasing (work_of c.units.work) js)) c.args.units.now c.units.journey-index c.journey-item.result (Err halt)
    (λ _. Next.Go (releasing next left)) c.units-test.true c.journey-item.is (c.units.invariant.gone mode task) (c.in_err-release.ensures.goes mode task left))

pub returns-in_err-release-clause-work : goal.returns-in_err-release-clause-work
returns-in_err-release-clause-work g c = subst (λ (o : Origin). IsWorkOn o (work_of c.release.new.work)) c.units.invariant.origin c.in_err-release.ensures.work

pub units-preserved : goal.units-preserved
units-preserved g c = record {
  origin = c.in_ok-release.ensures.origin ∙ c.units.invariant.origin;
  work = subst (λ (o : Origin). IsWorkOn o (work_of c.release.new.work)) c.units.invariant.origin c.in_ok-release.ensures.work;
  gone = λ mode task.
      let from = Next.Go (releasing (work_of c.args.work.now) c.args.units.now) in
      let left = drop (c.units.journey-index + 1) c.args.units.now in
      next_part {T = Unit {0}} (task_call mode task) _ _ _ from (λ (js : List Journey). Next.Go (releasing (work_of c.units.work) js)) c.args.units.now c.units.journey-index c.journey-item.result (Ok c.in_ok-release.field-0)
      (λ _. Next.Go (releasing (work_of c.release.new.work) left)) c.units-test.true c.journey-item.is (c.units.invariant.gone mode task) (c.in_ok-release.ensures.goes mode task left);
}

pub returns-clause-goes : goal.returns-clause-goes
returns-clause-goes g c = λ mode task.
    all_parts (task_call mode task) _ _ (Next.Go (releasing (work_of c.args.work.now) c.args.units.now)) (λ (js : List Journey). Next.Go (releasing (work_of c.units.work) js)) c.args.units.now c.units.journey-index
    c.units-test.false (c.units.invariant.gone mode task)
