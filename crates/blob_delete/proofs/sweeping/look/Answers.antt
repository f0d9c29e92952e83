use Rattle.std.proofs.Common.{[], length, refl}
use Rattle.volume_world.specs.declared.event.Event.TheVariants as events
use Rattle.volume_world.specs.Call.{Next}
use Rattle.blob_delete.specs.SweepCall.{SweepStage, unbroken, marking}
use Rattle.blob_delete.proofs.SweepLemmas.{sweeps_replied, sweeps_stopped}
use Rattle.blob_delete.proofs.sweeping.look.Goals as goal

pub returns-in-Ok-clause-sweeps : goal.returns-in-Ok-clause-sweeps
returns-in-Ok-clause-sweeps g c = λ bid.
    sweeps_replied bid _ _ SweepStage.Looking events.Look c.in-Ok.reply c.looked.result (λ units. Next.Go (marking (length units) [] (unbroken units))) refl c.in-Ok.ensures c.looked.ensures.reply

pub returns-in-Err-clause-sweeps : goal.returns-in-Err-clause-sweeps
returns-in-Err-clause-sweeps g c = λ bid.
    sweeps_stopped bid _ _ SweepStage.Looking events.Look c.in-Err.fault c.from.result (λ units. Next.Go (marking (length units) [] (unbroken units))) refl c.in-Err.ensures c.from.ensures
