use Rattle.std.proofs.Common.{Ok, rules}
use Rattle.volume_world.specs.Call.{Next}
use Rattle.migrate_task.specs.declared.stage.Stage.TheVariants as stages
use Rattle.migrate_task.specs.AdvanceCall.{TaskStage, task_call, releasing}
use Rattle.migrate_task.specs.TaskParts.{work_of}
use Rattle.migrate_task.proofs.TaskLemmas.{fails_on, part_on}
use Rattle.migrate_task.proofs.swapping.finish.Goals as goal

pub unlock-requires : goal.unlock-requires
unlock-requires g c = c.in_ok-release_all.ensures.work.most

pub returns-in_err-release_all-clause-goes : goal.returns-in_err-release_all-clause-goes
returns-in_err-release_all-clause-goes g c = λ mode.
    fails_on (task_call mode c.args.task.now) _ _ (Next.Go (releasing (work_of c.args.work.now) c.args.units.now)) c.in_err-release_all.field-0.0 c.from_residual.result
    (λ _. Next.Go (TaskStage.Unlocking (work_of c.release_all.new.work))) (λ given. Next.Over (Ok (stages.Done given))) (search rules) (c.in_err-release_all.ensures.goes mode c.args.task.now)

pub returns-clause-goes : goal.returns-clause-goes
returns-clause-goes g c = λ mode.
    part_on (task_call mode c.args.task.now) _ _ _ (Next.Go (releasing (work_of c.args.work.now) c.args.units.now)) (Next.Go (TaskStage.Unlocking (work_of c.release_all.new.work))) c.unlock.result
    (λ given. Next.Over (Ok (stages.Done given))) (c.in_ok-release_all.ensures.goes mode c.args.task.now) (c.unlock.ensures.goes mode)
