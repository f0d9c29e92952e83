use Rattle.std.proofs.Common.{refl, rules}
use Rattle.volume_world.specs.Call.{Next}
use Rattle.migrate_task.specs.Copies.{CopyStage}
use Rattle.migrate_task.specs.AdvanceCall.{TaskStage, task_call, copying, after_copy}
use Rattle.migrate_task.specs.TaskParts.{work_of, old_heard}
use Rattle.migrate_task.proofs.TaskLemmas.{goes_told, fails_on}
use Rattle.migrate_task.specs.GatherParts.{IsOldRow, IsOldRight}
use Rattle.migrate_task.proofs.GatherLemmas.{ok_map, old_right}
use Rattle.migrate_task.proofs.old_shard.read_old.Goals as goal

pub returns-in_err-reply-clause-goes : goal.returns-in_err-reply-clause-goes
returns-in_err-reply-clause-goes g c = λ mode task left.
    let work = work_of c.args.work.now in
    let copy = CopyStage.ReadingOld c.args.known c.args.errand.now left in
    fails_on (task_call mode task) _ _ (Next.Go (TaskStage.Copying work copy)) c.in_err-reply.field-0.0 c.from_residual.result (after_copy work copy)
    (λ old. copying work (old_heard work c.args.known c.args.errand.now left old)) (search rules) (c.in_err-reply.ensures.goes mode task work copy refl)

pub returns-clause-goes : goal.returns-clause-goes
returns-clause-goes g c = λ mode task left.
    let work = work_of c.args.work.now in
    let copy = CopyStage.ReadingOld c.args.known c.args.errand.now left in
    goes_told (task_call mode task) _ _ (Next.Go (TaskStage.Copying work copy)) (after_copy work copy c.in_ok-reply.reply) c.old_read.result
    (λ old. copying work (old_heard work c.args.known c.args.errand.now left old)) (c.old_read.ensures.makes left) (c.in_ok-reply.ensures.goes mode task work copy refl)

pub returns-clause-right : goal.returns-clause-right
returns-clause-right g c =
    let way = g.P.Port.seen c.read.new.port in
    let index = c.args.errand.now.journey.old.unit.index in
    ok_map c.old_read.result (IsOldRow c.args.work.now.mode c.args.known c.args.errand.now.bid c.in_ok-reply.reply) (IsOldRight way c.args.work.now.mode c.args.errand.now.bid index)
    (λ old h. old_right way c.args.work.now.mode c.args.known c.args.errand.now.bid index c.in_ok-reply.reply old c.in_ok-reply.ensures.right h) c.old_read.ensures.row
