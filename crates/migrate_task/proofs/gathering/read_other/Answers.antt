use Rattle.std.proofs.Common.{refl, rules}
use Rattle.volume_world.specs.Call.{Next}
use Rattle.migrate_task.specs.Copies.{CopyStage}
use Rattle.migrate_task.specs.AdvanceCall.{TaskStage, task_call, copying, after_copy}
use Rattle.migrate_task.specs.TaskParts.{work_of, other_heard}
use Rattle.migrate_task.proofs.CutLemmas.{end_done, copy_open}
use Rattle.migrate_task.proofs.TaskLemmas.{goes_made, fails_on}
use Rattle.migrate_task.specs.GatherParts.{Adds, AddsRight}
use Rattle.migrate_task.proofs.GatherLemmas.{ok_map, adds_right}
use Rattle.migrate_task.proofs.gathering.read_other.Goals as goal

pub returns-in_err-reply-clause-goes : goal.returns-in_err-reply-clause-goes
returns-in_err-reply-clause-goes g c = λ mode task left homes.
    let work = work_of c.args.work.now in
    let copy = CopyStage.ReadingOther c.args.known c.args.errand.now left c.args.gathered.now c.args.home.now homes in
    fails_on (task_call mode task) _ _ (Next.Go (TaskStage.Copying work copy)) c.in_err-reply.field-0.0 c.from_residual.result (after_copy work copy)
    (λ found. copying work (other_heard work c.args.known c.args.errand.now left c.args.gathered.now homes found)) (search rules) (c.in_err-reply.ensures.goes mode task work copy refl)

pub returns-clause-goes : goal.returns-clause-goes
returns-clause-goes g c = λ mode task left homes.
    let work = work_of c.args.work.now in
    let copy = CopyStage.ReadingOther c.args.known c.args.errand.now left c.args.gathered.now c.args.home.now homes in
    goes_made (task_call mode task) _ _ (Next.Go (TaskStage.Copying work copy)) (after_copy work copy c.in_ok-reply.reply) c.hear.result
    (λ found. copying work (other_heard work c.args.known c.args.errand.now left c.hear.new.gathered homes found)) (end_done (after_copy work copy c.in_ok-reply.reply) (copy_open work copy c.in_ok-reply.reply)) (c.hear.ensures.makes left homes) (c.in_ok-reply.ensures.goes mode task work copy refl)

pub returns-clause-adds : goal.returns-clause-adds
returns-clause-adds g c =
    let way = g.P.Port.seen c.read.new.port in
    let index = c.args.home.now.unit.index in
    let old = c.args.gathered.now in
    let new = c.hear.new.gathered in
    ok_map c.hear.result (Adds c.args.work.now.mode c.args.known c.args.errand.now.bid index old new c.in_ok-reply.reply) (AddsRight way c.args.work.now.mode c.args.known c.args.errand.now.bid index old new)
    (λ found h. adds_right way c.args.work.now.mode c.args.known c.args.errand.now.bid index old new c.in_ok-reply.reply found c.in_ok-reply.ensures.right h) c.hear.ensures.adds
