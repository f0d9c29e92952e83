use Rattle.std.proofs.Common.{◌≡◌, ℕ, suc, ◌+◌, List, Option, Ok, Err, refl, ◌∙◌, drop, subst, arith, rules}
use Rattle.unit_id.specs.declared.homes.Home.{Home}
use Rattle.code_mode.specs.Mode.{total_count}
use Rattle.volume_world.specs.Progress.{Proceeds}
use Rattle.migrate_task.specs.Copies.{reading}
use Rattle.migrate_task.specs.AdvanceCall.{task_call, copying}
use Rattle.migrate_task.specs.TaskParts.{work_of}
use Rattle.migrate_task.specs.GatherParts.{AreFrom, rebuilding, visited, IsVisited, IsRightBy}
use Rattle.migrate_task.proofs.TaskLemmas.{proceeds_nowhere, fails_on, next_part, all_parts}
use Rattle.migrate_task.proofs.WorkLemmas.{unit_there}
use Rattle.migrate_task.proofs.GatherLemmas.{gathered_from, order_on}
use Rattle.migrate_task.proofs.rebuilding.read_others.Goals as goal

pub others-init : goal.others-init
others-init g c = record {
  origin = refl;
  next = 0;
  order = c.requires.order;
  heard = c.requires.heard;
  right = c.requires.right;
  gone = λ mode task left. proceeds_nowhere (task_call mode task) _ (copying (work_of c.args.work.now) (reading c.args.known c.args.errand.now left c.args.gathered.now c.args.others.now));
}

pub visit-requires-clause-unit : goal.visit-requires-clause-unit
visit-requires-clause-unit g c = unit_there _ _ c.args.others.now c.others.home-index c.home-item.result c.others.invariant.origin c.requires.units c.others-test.true c.home-item.is

pub visit-requires-clause-within : goal.visit-requires-clause-within
visit-requires-clause-within g c = (order_on (total_count c.args.work.now.mode) c.others.invariant.next c.args.others.now c.others.home-index c.home-item.result c.others-test.true c.home-item.is c.others.invariant.order).1

pub visit-requires-clause-heard : goal.visit-requires-clause-heard
visit-requires-clause-heard g c =
    let order = order_on (total_count c.args.work.now.mode) c.others.invariant.next c.args.others.now c.others.home-index c.home-item.result c.others-test.true c.home-item.is c.others.invariant.order in
    gathered_from c.args.work.now.mode c.others.latest c.args.errand.now.bid c.others.invariant.next c.home-item.result.unit.index c.others.gathered order.0 c.others.invariant.heard

pub visit-requires-clause-right : goal.visit-requires-clause-right
visit-requires-clause-right g c = c.others.invariant.right

pub returns-in_err-found-clause-goes : goal.returns-in_err-found-clause-goes
returns-in_err-found-clause-goes g c = λ mode task left.
    let w = work_of c.args.work.now in
    let e = c.args.errand.now in
    let rest = drop (c.others.home-index + 1) c.args.others.now in
    let from = copying w (reading c.args.known e left c.args.gathered.now c.args.others.now) in
    let halt = c.in_err-found.field-0.0 in
    let new = c.visit.new.gathered in
    fails_on {T = Option ℕ} {U = ℕ} (task_call mode task) _ _ from halt c.from_residual.result (visited w c.visit.new.known e left new rest) (rebuilding w e left new) (search rules)
    (next_part {T = Option ℕ} (task_call mode task) _ _ _ from (λ (homes : List Home). copying w (reading c.others.latest e left c.others.gathered homes)) c.args.others.now c.others.home-index c.home-item.result (Err halt)
    (visited w c.visit.new.known e left new rest) c.others-test.true c.home-item.is (c.others.invariant.gone mode task left) (c.in_err-found.ensures.goes mode task left rest))

pub returns-in-Some-clause-goes : goal.returns-in-Some-clause-goes
returns-in-Some-clause-goes g c = λ mode task left.
    let w = work_of c.args.work.now in
    let e = c.args.errand.now in
    let rest = drop (c.others.home-index + 1) c.args.others.now in
    let from = copying w (reading c.args.known e left c.args.gathered.now c.args.others.now) in
    let new = c.visit.new.gathered in
    subst (λ (found : Option ℕ). Proceeds (task_call mode task) (g.P.Port.seen c.args.port.now) (g.P.Port.seen c.visit.new.port) from (visited w c.visit.new.known e left new rest found)) c.in-Some.is
    (next_part {T = Option ℕ} (task_call mode task) _ _ _ from (λ (homes : List Home). copying w (reading c.others.latest e left c.others.gathered homes)) c.args.others.now c.others.home-index c.home-item.result (Ok c.in_ok-found.found)
    (visited w c.visit.new.known e left new rest) c.others-test.true c.home-item.is (c.others.invariant.gone mode task left) (c.in_ok-found.ensures.goes mode task left rest))

pub returns-in-Some-clause-enough : goal.returns-in-Some-clause-enough
returns-in-Some-clause-enough g c =
    subst (IsVisited c.args.work.now.mode c.visit.new.known c.args.errand.now.bid (c.home-item.result.unit.index + 1) c.visit.new.gathered) c.in-Some.is c.in_ok-found.ensures.heard

pub returns-in-Some-clause-right : goal.returns-in-Some-clause-right
returns-in-Some-clause-right g c = subst (IsRightBy (g.P.Port.seen c.visit.new.port) c.args.errand.now.bid c.visit.new.gathered.shards) c.in-Some.is c.in_ok-found.ensures.right

pub others-preserved : goal.others-preserved
others-preserved g c =
    let order = order_on (total_count c.args.work.now.mode) c.others.invariant.next c.args.others.now c.others.home-index c.home-item.result c.others-test.true c.home-item.is c.others.invariant.order in
    let index = c.home-item.result.unit.index in
    let rest = drop (c.others.home-index + 1) c.args.others.now in
    let new = c.visit.new.gathered in
    let more : suc index ≡ index + 1 = omega arith in
    record {
      origin = c.in_ok-found.ensures.origin ∙ c.others.invariant.origin;
      next = index + 1;
      order = subst (λ n. AreFrom (total_count c.args.work.now.mode) n rest) more order.2;
      heard = subst (IsVisited c.args.work.now.mode c.visit.new.known c.args.errand.now.bid (index + 1) new) c.in-None.is c.in_ok-found.ensures.heard;
      right = subst (IsRightBy (g.P.Port.seen c.visit.new.port) c.args.errand.now.bid new.shards) c.in-None.is c.in_ok-found.ensures.right;
      gone = λ mode task left.
          let w = work_of c.args.work.now in
          let e = c.args.errand.now in
          let from = copying w (reading c.args.known e left c.args.gathered.now c.args.others.now) in
          subst (λ (found : Option ℕ). Proceeds (task_call mode task) (g.P.Port.seen c.args.port.now) (g.P.Port.seen c.visit.new.port) from (visited w c.visit.new.known e left new rest found)) c.in-None.is
          (next_part {T = Option ℕ} (task_call mode task) _ _ _ from (λ (homes : List Home). copying w (reading c.others.latest e left c.others.gathered homes)) c.args.others.now c.others.home-index c.home-item.result (Ok c.in_ok-found.found)
          (visited w c.visit.new.known e left new rest) c.others-test.true c.home-item.is (c.others.invariant.gone mode task left) (c.in_ok-found.ensures.goes mode task left rest));
    }

pub returns-clause-goes : goal.returns-clause-goes
returns-clause-goes g c = λ mode task left.
    let w = work_of c.args.work.now in
    let e = c.args.errand.now in
    all_parts (task_call mode task) _ _ (copying w (reading c.args.known e left c.args.gathered.now c.args.others.now)) (λ (homes : List Home). copying w (reading c.others.latest e left c.others.gathered homes)) c.args.others.now
    c.others.home-index c.others-test.false (c.others.invariant.gone mode task left)
