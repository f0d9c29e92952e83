use Rattle.volume_world.specs.declared.event.Event.TheVariants as events
use Rattle.volume_calls.specs.CutOff.{ask_cut}
use Rattle.volume_calls.specs.SingleCalls.{ask_tells}
use Rattle.volume_calls.proofs.CallLemmas.{asks_whole, asks_cut}
use Rattle.volume_calls.proofs.single.ask.Goals as goal

pub returns-in-Ok : goal.returns-in-Ok
returns-in-Ok g c = asks_whole (events.Ask c.args.bid) ask_tells ask_cut _ _ c.in-Ok.reply c.asked.result c.asked.ensures.whole c.asked.ensures.told c.in-Ok.ensures

pub returns-in-Err : goal.returns-in-Err
returns-in-Err g c = asks_cut (events.Ask c.args.bid) ask_tells ask_cut _ _ c.in-Err.fault c.from.result c.from.ensures c.in-Err.ensures
