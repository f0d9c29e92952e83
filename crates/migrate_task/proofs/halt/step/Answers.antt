use Rattle.std.proofs.Common.{Ok, Err}
use Rattle.volume_world.proofs.Comings.{step_proceeds}
use Rattle.migrate_task.specs.AdvanceCall.{task_call, task_after}
use Rattle.migrate_task.proofs.TaskLemmas.{same_origin, stops}
use Rattle.migrate_task.proofs.halt.step.Goals as goal

pub returns-in-Ok-clause-steps : goal.returns-in-Ok-clause-steps
returns-in-Ok-clause-steps g c = λ mode task stage e. step_proceeds (task_call mode task) _ _ stage c.args.event (Ok c.in-Ok.reply) e c.in-Ok.ensures

pub returns-in-Ok-clause-origin : goal.returns-in-Ok-clause-origin
returns-in-Ok-clause-origin g c = same_origin _ _ c.args.event (Ok c.in-Ok.reply) c.in-Ok.ensures

pub returns-in-Ok-clause-fits : goal.returns-in-Ok-clause-fits
returns-in-Ok-clause-fits g c = c.in-Ok.ensures.fits

pub returns-in-Ok-clause-moves : goal.returns-in-Ok-clause-moves
returns-in-Ok-clause-moves g c = c.in-Ok.ensures.moves

pub returns-in-Err-clause-steps : goal.returns-in-Err-clause-steps
returns-in-Err-clause-steps g c = λ mode task stage e. stops (task_call mode task) _ _ stage c.args.event c.in-Err.fault (task_after mode task stage) e c.in-Err.ensures

pub returns-in-Err-clause-origin : goal.returns-in-Err-clause-origin
returns-in-Err-clause-origin g c = same_origin _ _ c.args.event (Err c.in-Err.fault) c.in-Err.ensures

pub returns-in-Ok-clause-happens : goal.returns-in-Ok-clause-happens
returns-in-Ok-clause-happens g c = c.in-Ok.ensures
