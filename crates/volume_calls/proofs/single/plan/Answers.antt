use Rattle.std.proofs.Common.{refl}
use Rattle.volume_world.specs.declared.event.Event.TheVariants as events
use Rattle.volume_calls.specs.CutOff.{step_cut}
use Rattle.volume_calls.specs.SingleCalls.{done_tells}
use Rattle.volume_calls.proofs.CallLemmas.{asks_whole, asks_cut}
use Rattle.volume_calls.proofs.single.plan.Goals as goal

pub returns-in-Ok : goal.returns-in-Ok
returns-in-Ok g c = asks_whole (events.Plan c.args.disk c.args.fate c.args.count) done_tells step_cut _ _ c.in-Ok.reply c.done.result c.done.ensures.whole c.done.ensures.told c.in-Ok.ensures

pub returns-in-Err : goal.returns-in-Err
returns-in-Err g c = asks_cut (events.Plan c.args.disk c.args.fate c.args.count) done_tells step_cut _ _ c.in-Err.fault c.in-Err.fault refl c.in-Err.ensures
