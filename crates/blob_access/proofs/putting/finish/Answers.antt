use Rattle.std.proofs.Common.{Ok, refl}
use Rattle.volume_world.specs.declared.event.Event.TheVariants as events
use Rattle.volume_world.specs.Call.{Next}
use Rattle.blob_access.specs.PutCall.{PutStage, put_call}
use Rattle.blob_access.proofs.PutLemmas.{never_cut, puts_replied, puts_stopped}
use Rattle.blob_access.proofs.putting.finish.Goals as goal

pub returns-in-Ok : goal.returns-in-Ok
returns-in-Ok g c = λ mode payload.
    puts_replied (put_call mode c.args.bid payload) never_cut _ _ (PutStage.Ending c.args.end) (events.End c.args.bid) c.in-Ok.reply c.ended.result (λ acked. Next.Over (Ok acked)) refl c.in-Ok.ensures c.ended.ensures

pub returns-in-Err : goal.returns-in-Err
returns-in-Err g c = λ mode payload.
    puts_stopped (put_call mode c.args.bid payload) _ _ (PutStage.Ending c.args.end) (events.End c.args.bid) c.in-Err.fault c.from.result (λ acked. Next.Over (Ok acked)) refl c.in-Err.ensures c.from.ensures
