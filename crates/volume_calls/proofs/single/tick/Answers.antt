use Rattle.std.proofs.Common.{Ok, refl}
use Rattle.volume_world.specs.declared.event.Event.TheVariants as events
use Rattle.volume_calls.specs.CutOff.{step_cut}
use Rattle.volume_calls.specs.SingleCalls.{tick_tells}
use Rattle.volume_calls.proofs.CallLemmas.{asks_whole, asks_cut}
use Rattle.volume_calls.proofs.single.tick.Goals as goal

pub returns-in-Ok : goal.returns-in-Ok
returns-in-Ok g c = asks_whole (events.Tick c.args.by) tick_tells step_cut _ _ c.in-Ok.reply (Ok c.time_of.result) refl c.time_of.ensures c.in-Ok.ensures

pub returns-in-Err : goal.returns-in-Err
returns-in-Err g c = asks_cut (events.Tick c.args.by) tick_tells step_cut _ _ c.in-Err.fault c.in-Err.fault refl c.in-Err.ensures
