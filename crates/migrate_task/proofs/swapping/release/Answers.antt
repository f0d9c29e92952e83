use Rattle.std.proofs.Common.{cond, sym, subst, rules}
use Rattle.volume_world.specs.Call.{Next}
use Rattle.volume_world.specs.Progress.{Proceeds}
use Rattle.migrate_task.specs.Work.{Work, with_broken}
use Rattle.migrate_task.specs.AdvanceCall.{TaskStage, task_call, releasing}
use Rattle.migrate_task.specs.TaskParts.{work_of, IsWorkOn}
use Rattle.migrate_task.proofs.TaskLemmas.{fails_on}
use Rattle.migrate_task.proofs.WorkLemmas.{work_heard}
use Rattle.migrate_task.proofs.swapping.release.Goals as goal

pub returns-in_err-is_broken-clause-goes : goal.returns-in_err-is_broken-clause-goes
returns-in_err-is_broken-clause-goes g c = λ mode task left.
    let was = work_of c.args.work.now in
    fails_on (task_call mode task) _ _ (Next.Go (TaskStage.Releasing was c.args.journey.now left)) c.in_err-is_broken.field-0.0 c.from_residual.result
    (λ broken. Next.Go (releasing (cond broken (with_broken c.args.journey.now.old.disk was) was) left)) (λ _. Next.Go (releasing was left)) (search rules) (c.in_err-is_broken.ensures.goes mode task was left)

pub returns-clause-goes : goal.returns-clause-goes
returns-clause-goes g c = λ mode task left.
    let was = work_of c.args.work.now in
    subst (λ (w : Work). Proceeds (task_call mode task) (g.P.Port.seen c.args.port.now) (g.P.Port.seen c.ask_release.new.port) (Next.Go (TaskStage.Releasing was c.args.journey.now left)) (Next.Go (releasing w left)))
    (sym c.count_broken.ensures) (c.in_ok-is_broken.ensures.goes mode task was left)

pub returns-clause-work : goal.returns-clause-work
returns-clause-work g c =
    subst (IsWorkOn (g.P.Port.seen c.args.port.now).origin) (sym c.count_broken.ensures)
    (work_heard _ c.in_ok-is_broken.is_broken c.args.journey.now.old.disk (work_of c.args.work.now) c.requires.work)
