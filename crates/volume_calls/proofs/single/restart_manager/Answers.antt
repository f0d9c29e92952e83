use Rattle.volume_world.specs.declared.event.Event.TheVariants as events
use Rattle.volume_calls.specs.CutOff.{log_cut}
use Rattle.volume_calls.specs.SingleCalls.{manager_tells}
use Rattle.volume_calls.proofs.CallLemmas.{asks_whole, asks_cut}
use Rattle.volume_calls.proofs.single.restart_manager.Goals as goal

pub returns-in-Ok : goal.returns-in-Ok
returns-in-Ok g c = asks_whole events.RestartManager manager_tells log_cut _ _ c.in-Ok.reply c.manager_restarted.result c.manager_restarted.ensures.whole c.manager_restarted.ensures.told c.in-Ok.ensures

pub returns-in-Err : goal.returns-in-Err
returns-in-Err g c = asks_cut events.RestartManager manager_tells log_cut _ _ c.in-Err.fault c.from.result c.from.ensures c.in-Err.ensures
