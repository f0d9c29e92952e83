use Rattle.std.proofs.Common.{sym, ◌∙◌, ap, subst, rules}
use Rattle.volume_world.specs.Way.{Origin}
use Rattle.volume_world.specs.Asking.{IsUnitOn}
use Rattle.migrate_task.specs.Copies.{copy_begins, knowing, next_errand}
use Rattle.migrate_task.specs.AdvanceCall.{task_call, copying}
use Rattle.migrate_task.specs.TaskParts.{work_of}
use Rattle.migrate_task.specs.GatherParts.{writing}
use Rattle.migrate_task.proofs.TaskLemmas.{fails_on, part_on}
use Rattle.migrate_task.proofs.GatherLemmas.{copy_may}
use Rattle.migrate_task.proofs.copies.copy.Goals as goal

pub returns-in_err-row-clause-goes : goal.returns-in_err-row-clause-goes
returns-in_err-row-clause-goes g c = λ mode task left.
    let w = work_of c.args.work.now in
    let e = c.args.errand.now in
    fails_on {U = Unit {0}} (task_call mode task) _ _ (copying w (copy_begins w c.args.known.now e left)) c.in_err-row.field-0.0 c.from_residual.result (writing w e left) (λ _. copying w (next_errand w c.args.known.now left)) (search rules)
    (c.in_err-row.ensures.goes mode task left)

pub write-requires : goal.write-requires
write-requires g c =
    let b = g.P.Port.seen c.shard_for.new.port in
    let e = c.args.errand.now in
    copy_may b c.args.work.now.mode e.bid e.journey.index e.journey.dest c.in_ok-row.row (c.requires.work.mode ∙ ap (λ (o : Origin). o.mode) (sym c.in_ok-row.ensures.origin)) c.is_way.ensures c.requires.errand.number
    (subst (λ (o : Origin). IsUnitOn o e.journey.dest.unit e.journey.dest.disk) (sym c.in_ok-row.ensures.origin) c.requires.errand.journey.dest) c.requires.errand.journey.dest_index c.in_ok-row.ensures.right

pub returns-clause-goes : goal.returns-clause-goes
returns-clause-goes g c = λ mode task left.
    let w = work_of c.args.work.now in
    let e = c.args.errand.now in
    let row = c.in_ok-row.row in
    let known = knowing e.bid row.size in
    part_on {T = Unit {0}} (task_call mode task) _ _ _ (copying w (copy_begins w c.args.known.now e left)) (writing w e left row) c.write.result (λ _. copying w (next_errand w known left)) (c.in_ok-row.ensures.goes mode task left)
    (c.write.ensures.goes mode task w known left)
