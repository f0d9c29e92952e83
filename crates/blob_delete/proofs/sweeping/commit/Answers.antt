use Rattle.std.proofs.Common.{refl}
use Rattle.volume_world.specs.declared.event.Event.TheVariants as events
use Rattle.blob_delete.specs.SweepCall.{SweepStage}
use Rattle.blob_delete.specs.SweepParts.{decided_on}
use Rattle.blob_delete.proofs.SweepLemmas.{sweeps_replied, sweeps_stopped}
use Rattle.blob_delete.proofs.sweeping.commit.Goals as goal

pub returns-in-Ok : goal.returns-in-Ok
returns-in-Ok g c = λ total marked.
    sweeps_replied c.args.bid _ _ (SweepStage.Committing total marked) (events.Commit c.args.bid) c.in-Ok.reply c.decision.result (decided_on total marked) refl c.in-Ok.ensures (c.decision.ensures total marked)

pub returns-in-Err : goal.returns-in-Err
returns-in-Err g c = λ total marked.
    sweeps_stopped c.args.bid _ _ (SweepStage.Committing total marked) (events.Commit c.args.bid) c.in-Err.fault c.from.result (decided_on total marked) refl c.in-Err.ensures c.from.ensures
