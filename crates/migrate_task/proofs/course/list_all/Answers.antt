use Rattle.std.proofs.Common.{[], None, sym, subst, rules}
use Rattle.volume_world.specs.Way.{Origin}
use Rattle.migrate_task.specs.Work.{errands}
use Rattle.migrate_task.specs.Copies.{next_errand}
use Rattle.migrate_task.specs.AdvanceCall.{task_call, creating, listing_dests, copying}
use Rattle.migrate_task.specs.TaskParts.{IsWorkOn, work_of}
use Rattle.migrate_task.proofs.TaskLemmas.{fails_on, part_on}
use Rattle.migrate_task.proofs.course.list_all.Goals as goal

pub hear-requires : goal.hear-requires
hear-requires g c = subst (λ (o : Origin). IsWorkOn o (work_of c.prepare.new.work)) (sym c.in_ok-prepare.ensures.origin) c.in_ok-prepare.ensures.work

pub returns-in_err-prepare-clause-goes : goal.returns-in_err-prepare-clause-goes
returns-in_err-prepare-clause-goes g c = λ mode task.
    let was = work_of c.args.work.now in
    let w = work_of c.prepare.new.work in
    fails_on {T = Unit {0}} (task_call mode task) _ _ (creating was was.journeys) c.in_err-prepare.field-0.0 c.from_residual.result (λ _. listing_dests w [] w.journeys)
    (λ heard. copying w (next_errand w None (errands w heard.dests.items heard.units.items))) (search rules) (c.in_err-prepare.ensures.goes mode task)

pub returns-clause-goes : goal.returns-clause-goes
returns-clause-goes g c = λ mode task.
    let was = work_of c.args.work.now in
    let w = work_of c.prepare.new.work in
    part_on (task_call mode task) _ _ _ (creating was was.journeys) (listing_dests w [] w.journeys) c.hear.result (λ heard. copying w (next_errand w None (errands w heard.dests.items heard.units.items)))
    (c.in_ok-prepare.ensures.goes mode task) (c.hear.ensures.goes mode task)
