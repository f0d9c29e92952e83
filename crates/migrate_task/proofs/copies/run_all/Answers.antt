use Rattle.std.proofs.Common.{◌+◌, List, None, Ok, Err, refl, sym, ◌∙◌, ap, drop, subst, rules}
use Rattle.volume_world.specs.Way.{Origin}
use Rattle.volume_world.specs.Call.{Next}
use Rattle.migrate_task.specs.declared.copying.Errand.{Errand}
use Rattle.migrate_task.specs.Copies.{next_errand}
use Rattle.migrate_task.specs.AdvanceCall.{TaskStage, task_call, copying}
use Rattle.migrate_task.specs.TaskParts.{IsWorkOn, work_of}
use Rattle.migrate_task.specs.GatherParts.{coder_shape}
use Rattle.migrate_task.proofs.TaskLemmas.{proceeds_nowhere, fails_on, next_part, all_parts}
use Rattle.migrate_task.proofs.GatherLemmas.{errand_there}
use Rattle.migrate_task.proofs.copies.run_all.Goals as goal

pub errands-init : goal.errands-init
errands-init g c = record {
  origin = refl;
  coder = refl;
  gone = λ mode task. proceeds_nowhere (task_call mode task) _ (copying (work_of c.args.work.now) (next_errand (work_of c.args.work.now) None c.args.errands.now));
}

pub run-requires-clause-coder : goal.run-requires-clause-coder
run-requires-clause-coder g c = c.errands.invariant.coder ∙ c.requires.coder ∙ ap (λ (o : Origin). coder_shape o.mode) (sym c.errands.invariant.origin)

pub run-requires-clause-work : goal.run-requires-clause-work
run-requires-clause-work g c = subst (λ (o : Origin). IsWorkOn o (work_of c.args.work.now)) (sym c.errands.invariant.origin) c.requires.work

pub run-requires-clause-errand : goal.run-requires-clause-errand
run-requires-clause-errand g c = errand_there _ _ c.args.errands.now c.errands.errand-index c.errand-item.result c.errands.invariant.origin c.requires.errands c.errands-test.true c.errand-item.is

pub returns-in_err-run-clause-goes : goal.returns-in_err-run-clause-goes
unfolding next_errand
returns-in_err-run-clause-goes g c = λ mode task.
    let w = work_of c.args.work.now in
    let left = drop (c.errands.errand-index + 1) c.args.errands.now in
    let from = copying w (next_errand w None c.args.errands.now) in
    let halt = c.in_err-run.field-0.0 in
    fails_on {T = Unit {0}} {U = Unit {0}} (task_call mode task) _ _ from halt c.from_residual.result (λ _. copying w (next_errand w c.run.new.known left)) (λ _. Next.Go (TaskStage.Swapping w)) (search rules)
    (next_part {T = Unit {0}} (task_call mode task) _ _ _ from (λ (es : List Errand). copying w (next_errand w c.errands.known es)) c.args.errands.now c.errands.errand-index c.errand-item.result (Err halt)
    (λ _. copying w (next_errand w c.run.new.known left)) c.errands-test.true c.errand-item.is (c.errands.invariant.gone mode task) (c.in_err-run.ensures.goes mode task left))

pub errands-preserved : goal.errands-preserved
unfolding next_errand
errands-preserved g c = record {
  origin = c.in_ok-run.ensures.origin ∙ c.errands.invariant.origin;
  coder = c.in_ok-run.ensures.shape ∙ c.errands.invariant.coder;
  gone = λ mode task.
      let w = work_of c.args.work.now in
      let left = drop (c.errands.errand-index + 1) c.args.errands.now in
      let from = copying w (next_errand w None c.args.errands.now) in
      next_part {T = Unit {0}} (task_call mode task) _ _ _ from (λ (es : List Errand). copying w (next_errand w c.errands.known es)) c.args.errands.now c.errands.errand-index c.errand-item.result (Ok c.in_ok-run.field-0)
      (λ _. copying w (next_errand w c.run.new.known left)) c.errands-test.true c.errand-item.is (c.errands.invariant.gone mode task) (c.in_ok-run.ensures.goes mode task left);
}

pub returns-clause-goes : goal.returns-clause-goes
unfolding next_errand
returns-clause-goes g c = λ mode task.
    let w = work_of c.args.work.now in
    all_parts (task_call mode task) _ _ (copying w (next_errand w None c.args.errands.now)) (λ (es : List Errand). copying w (next_errand w c.errands.known es)) c.args.errands.now c.errands.errand-index c.errands-test.false
    (c.errands.invariant.gone mode task)
