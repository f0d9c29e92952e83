use Rattle.std.proofs.Common.{List, [], Err, sym, subst, rules}
use Rattle.volume_world.specs.Way.{Origin}
use Rattle.volume_world.specs.Progress.{Proceeds}
use Rattle.migrate_task.specs.declared.work.Journey.{Journey}
use Rattle.migrate_task.specs.Work.{with_old_units}
use Rattle.migrate_task.specs.AdvanceCall.{task_call, creating, listing_dests, fencing}
use Rattle.migrate_task.specs.TaskParts.{AreJourneys, IsWorkOn, GoesOn, work_of}
use Rattle.migrate_task.proofs.TaskLemmas.{fails_on, part_on}
use Rattle.migrate_task.proofs.course.prepare.Goals as goal

pub create_all-requires : goal.create_all-requires
create_all-requires g c = subst (AreJourneys (g.P.Port.seen c.args.port.now).origin) (sym c.as_slice.ensures.value) c.requires.journeys

pub returns-in_err-create_all-clause-goes : goal.returns-in_err-create_all-clause-goes
returns-in_err-create_all-clause-goes g c = λ mode task.
    let was = work_of c.args.work.now in
    fails_on {T = Unit {0}} {U = Unit {0}} (task_call mode task) _ _ (creating was was.journeys) c.in_err-create_all.field-0.0 c.from_residual.result (λ _. creating was []) (λ _. listing_dests was [] was.journeys) (search rules)
    (subst (λ (js : List Journey). GoesOn {T = Unit {0}} (task_call mode task) (g.P.Port.seen c.args.port.now) (g.P.Port.seen c.create_all.new.port) (creating was js) (Err c.in_err-create_all.field-0.0) (λ _. creating was [])) c.as_slice.ensures.value (c.in_err-create_all.ensures.goes mode task was))

pub fence_all-requires : goal.fence_all-requires
fence_all-requires g c = subst (λ (o : Origin). IsWorkOn o (work_of c.args.work.now)) (sym c.in_ok-create_all.ensures.origin) c.requires

pub returns-clause-goes : goal.returns-clause-goes
unfolding creating fencing
returns-clause-goes g c = λ mode task.
    let was = work_of c.args.work.now in
    let new = work_of c.fence_all.new.work in
    part_on (task_call mode task) _ _ _ (creating was was.journeys) (fencing was (with_old_units was.journeys)) c.fence_all.result (λ _. listing_dests new [] new.journeys)
    (subst (λ (js : List Journey). Proceeds (task_call mode task) (g.P.Port.seen c.args.port.now) (g.P.Port.seen c.create_all.new.port) (creating was js) (creating was [])) c.as_slice.ensures.value (c.in_ok-create_all.ensures.goes mode task was)) (c.fence_all.ensures.goes mode task)

pub returns-clause-work : goal.returns-clause-work
returns-clause-work g c = subst (λ (o : Origin). IsWorkOn o (work_of c.fence_all.new.work)) c.in_ok-create_all.ensures.origin c.fence_all.ensures.work
