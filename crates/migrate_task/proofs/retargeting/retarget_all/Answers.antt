use Rattle.std.proofs.Common.{◌+◌, [], Ok, Err, refl, sym, ◌∙◌, drop, subst, rules}
use Rattle.volume_world.specs.Way.{Origin}
use Rattle.migrate_task.specs.AdvanceCall.{task_call, retargeting}
use Rattle.migrate_task.specs.TaskParts.{IsTaskOf, IsWorkOn, work_of}
use Rattle.migrate_task.proofs.TaskLemmas.{proceeds_nowhere, fails_on, next_part, all_parts}
use Rattle.migrate_task.proofs.WorkLemmas.{move_there}
use Rattle.migrate_task.proofs.retargeting.retarget_all.Goals as goal

pub moves-init : goal.moves-init
moves-init g c = record {
  origin = refl;
  work = c.requires.work;
  gone = λ mode. proceeds_nowhere (task_call mode c.args.task.now) _ (retargeting c.args.task.now.targets (work_of c.args.work.now) c.args.moves.now);
}

pub retarget-requires-clause-task : goal.retarget-requires-clause-task
retarget-requires-clause-task g c = subst (λ (o : Origin). IsTaskOf o c.args.task.now) (sym c.moves.invariant.origin) c.requires.task

pub retarget-requires-clause-work : goal.retarget-requires-clause-work
retarget-requires-clause-work g c = subst (λ (o : Origin). IsWorkOn o (work_of c.moves.work)) (sym c.moves.invariant.origin) c.moves.invariant.work

pub retarget-requires-clause-index : goal.retarget-requires-clause-index
retarget-requires-clause-index g c = move_there _ _ c.args.moves.now c.moves.item-index c.item-item.result c.moves.invariant.origin c.requires.moves c.moves-test.true c.item-item.is

pub returns-in_err-retarget-clause-goes : goal.returns-in_err-retarget-clause-goes
returns-in_err-retarget-clause-goes g c = λ mode.
    let task = c.args.task.now in
    let from = retargeting task.targets (work_of c.args.work.now) c.args.moves.now in
    let left = drop (c.moves.item-index + 1) c.args.moves.now in
    let halt = c.in_err-retarget.field-0.0 in
    let next = work_of c.retarget.new.work in
    fails_on {T = Unit {0}} {U = Unit {0}} (task_call mode task) _ _ from halt c.from_residual.result (λ _. retargeting task.targets next left) (λ _. retargeting task.targets next []) (search rules)
    (next_part {T = Unit {0}} (task_call mode task) _ _ _ from (retargeting task.targets (work_of c.moves.work)) c.args.moves.now c.moves.item-index c.item-item.result (Err halt) (λ _. retargeting task.targets next left)
    c.moves-test.true c.item-item.is (c.moves.invariant.gone mode) (c.in_err-retarget.ensures.goes mode left))

pub returns-in_err-retarget-clause-work : goal.returns-in_err-retarget-clause-work
returns-in_err-retarget-clause-work g c = subst (λ (o : Origin). IsWorkOn o (work_of c.retarget.new.work)) c.moves.invariant.origin c.in_err-retarget.ensures.work

pub moves-preserved : goal.moves-preserved
moves-preserved g c = record {
  origin = c.in_ok-retarget.ensures.origin ∙ c.moves.invariant.origin;
  work = subst (λ (o : Origin). IsWorkOn o (work_of c.retarget.new.work)) c.moves.invariant.origin c.in_ok-retarget.ensures.work;
  gone = λ mode.
      let task = c.args.task.now in
      let from = retargeting task.targets (work_of c.args.work.now) c.args.moves.now in
      let left = drop (c.moves.item-index + 1) c.args.moves.now in
      next_part {T = Unit {0}} (task_call mode task) _ _ _ from (retargeting task.targets (work_of c.moves.work)) c.args.moves.now c.moves.item-index c.item-item.result (Ok c.in_ok-retarget.field-0)
      (λ _. retargeting task.targets (work_of c.retarget.new.work) left) c.moves-test.true c.item-item.is (c.moves.invariant.gone mode) (c.in_ok-retarget.ensures.goes mode left);
}

pub returns-clause-goes : goal.returns-clause-goes
returns-clause-goes g c = λ mode.
    all_parts (task_call mode c.args.task.now) _ _ (retargeting c.args.task.now.targets (work_of c.args.work.now) c.args.moves.now) (retargeting c.args.task.now.targets (work_of c.moves.work)) c.args.moves.now c.moves.item-index
    c.moves-test.false (c.moves.invariant.gone mode)
