use Rattle.volume_world.specs.declared.event.Event.TheVariants as events
use Rattle.volume_calls.specs.CutOff.{restart_cut}
use Rattle.volume_calls.specs.SingleCalls.{restart_tells}
use Rattle.volume_calls.proofs.CallLemmas.{asks_whole, asks_cut}
use Rattle.volume_calls.proofs.single.restart.Goals as goal

pub returns-in-Ok : goal.returns-in-Ok
returns-in-Ok g c = asks_whole (events.Restart c.args.disk) restart_tells restart_cut _ _ c.in-Ok.reply c.restarted.result c.restarted.ensures.whole c.restarted.ensures.told c.in-Ok.ensures

pub returns-in-Err : goal.returns-in-Err
returns-in-Err g c = asks_cut (events.Restart c.args.disk) restart_tells restart_cut _ _ c.in-Err.fault c.from.result c.from.ensures c.in-Err.ensures
