use Rattle.volume_world.specs.declared.event.Event.TheVariants as events
use Rattle.volume_calls.specs.CutOff.{log_cut}
use Rattle.volume_calls.specs.SingleCalls.{look_tells}
use Rattle.volume_calls.proofs.CallLemmas.{asks_whole, asks_cut}
use Rattle.volume_calls.proofs.single.look.Goals as goal

pub returns-in-Ok : goal.returns-in-Ok
returns-in-Ok g c = asks_whole events.Look look_tells log_cut _ _ c.in-Ok.reply c.shown.result c.shown.ensures.whole c.shown.ensures.told c.in-Ok.ensures

pub returns-in-Err : goal.returns-in-Err
returns-in-Err g c = asks_cut events.Look look_tells log_cut _ _ c.in-Err.fault c.from.result c.from.ensures c.in-Err.ensures

pub shown-requires : goal.shown-requires
shown-requires g c = ((g.P.Port.seen c.args.port.now).origin, c.in-Ok.ensures.fits)
