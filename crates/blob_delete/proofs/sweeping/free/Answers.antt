use Rattle.std.proofs.Common.{refl}
use Rattle.unit_id.specs.declared.request.Request.TheVariants as requests
use Rattle.volume_world.specs.declared.event.Event.TheVariants as events
use Rattle.blob_delete.specs.SweepCall.{SweepStage, after_free}
use Rattle.blob_delete.proofs.SweepLemmas.{sweeps_replied, sweeps_stopped}
use Rattle.blob_delete.proofs.sweeping.free.Goals as goal

pub returns-in-Ok : goal.returns-in-Ok
returns-in-Ok g c = λ total freed left.
    let home = c.args.home.now in
    sweeps_replied c.args.bid _ _ (SweepStage.Freeing total freed home left) (events.Send (requests.Free home.unit home.disk c.args.bid)) c.in-Ok.reply c.sent.result (after_free total freed left)
    refl c.in-Ok.ensures (c.sent.ensures (after_free total freed left))

pub returns-in-Err : goal.returns-in-Err
returns-in-Err g c = λ total freed left.
    let home = c.args.home.now in
    sweeps_stopped c.args.bid _ _ (SweepStage.Freeing total freed home left) (events.Send (requests.Free home.unit home.disk c.args.bid)) c.in-Err.fault c.from.result (after_free total freed left)
    refl c.in-Err.ensures c.from.ensures
