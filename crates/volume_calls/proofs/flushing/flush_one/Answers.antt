use Rattle.std.proofs.Common.{Ok, Err}
use Rattle.volume_calls.proofs.flushing.flush_one.Goals as goal

pub returns-in-Ok : goal.returns-in-Ok
returns-in-Ok g c = record { step = Ok c.in-Ok.reply; steps = c.in-Ok.ensures; tells = (c.arrived.ensures.whole, c.arrived.ensures.told) }

pub returns-in-Err : goal.returns-in-Err
returns-in-Err g c = record { step = Err c.in-Err.fault; steps = c.in-Err.ensures; tells = c.from.ensures }
